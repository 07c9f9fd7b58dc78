pub mod RoleLaws
pub mod Amended
pub mod Cases
pub mod RoleCases
pub mod NoDomain
