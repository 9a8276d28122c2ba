pub mod Samples
pub mod SamplesLemmas
