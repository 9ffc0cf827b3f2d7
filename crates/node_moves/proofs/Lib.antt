pub mod FewReads
