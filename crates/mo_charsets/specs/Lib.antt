pub mod MoRecoding
pub mod MoFailing
