-- Words that only invariants, private contracts and proofs cite.
pub mod KeywordValues
pub mod LongRows
pub mod NextRows
pub mod RowTables
