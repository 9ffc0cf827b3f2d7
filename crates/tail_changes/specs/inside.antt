-- Words that only private contracts and proofs cite.
pub mod Cuts
pub mod TailBegins
