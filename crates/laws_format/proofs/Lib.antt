pub mod ChecksumLaws
pub mod ContentLaws
pub mod FieldLaws
pub mod InfoLaws
pub mod PduLaws
pub mod TlvLaws
pub mod TlvListLaws
