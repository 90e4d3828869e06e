pub mod Tests
pub mod Lists
pub mod Early
pub mod TakenBack
pub mod Serving
pub mod Calls
pub mod Clauses
