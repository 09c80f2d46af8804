pub mod Order
pub mod Ranks
pub mod Waiting
pub mod Meaning
pub mod Down
pub mod Worked
