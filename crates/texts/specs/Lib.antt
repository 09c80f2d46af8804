pub mod Refusals
pub mod Splitting
pub mod Texts
pub mod Lines
pub mod Joined
