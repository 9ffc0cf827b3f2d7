-- Words that the definitions don't need: the laws' proofs and the reader's own contracts cite them.
pub mod FaultlessRows
