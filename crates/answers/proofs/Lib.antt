pub mod NoTerm
