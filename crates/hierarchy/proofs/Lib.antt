pub mod Known
pub mod LinkTables
pub mod SettledTables
