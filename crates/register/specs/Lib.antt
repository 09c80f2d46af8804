pub mod Refusals
pub mod Entries
pub mod Places
pub mod Contents
pub mod Growing
pub mod Settling
pub mod Asking
pub mod Tables
