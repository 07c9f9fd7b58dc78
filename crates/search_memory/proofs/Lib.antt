pub mod KeptLaws
pub mod StandLaws
pub mod SlotLaws
pub mod OpenLaws
pub mod MemoryLaws
pub mod ShutLaws
pub mod LoopLaws
pub mod PairLaws
