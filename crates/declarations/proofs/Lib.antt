pub mod Going
pub mod Settling
pub mod Loading
pub mod Keeping
pub mod Setups
pub mod Running
