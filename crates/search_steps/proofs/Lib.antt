pub mod FlowLaws
pub mod NearestLaws
pub mod OfferLaws
pub mod AlikeLaws
pub mod PairLaws
