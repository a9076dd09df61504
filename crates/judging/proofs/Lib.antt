-- The lemmas that the proofs of the judge's functions share, and the laws.
pub mod Firsts
pub mod Filled
pub mod Folds
pub mod Telling
pub mod Passes
pub mod Binds
pub mod Redraws
pub mod Contents
pub mod Finding
