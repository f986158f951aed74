pub mod Entries
pub mod Messages
pub mod Numbers
pub mod Endpoints
pub mod Recorders
pub mod Summaries
