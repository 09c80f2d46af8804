pub mod Lines
pub mod Fronts
pub mod Listings
pub mod Marking
pub mod Turns
pub mod JoiningTables
pub mod FreeBases
pub mod Finds
