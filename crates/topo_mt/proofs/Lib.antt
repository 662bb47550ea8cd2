pub mod ContentLaws
pub mod MemberLaws
pub mod ObserverLaws
pub mod ProjectedLaws
pub mod WithoutLaws
