pub mod SpanLaws
pub mod SumLaws
