pub mod BestGains
pub mod LeastPlans
pub mod PutAnswers
pub mod TriedPuts
