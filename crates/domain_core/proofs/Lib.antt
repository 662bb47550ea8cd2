pub mod CarryLaws
pub mod ConfLaws
pub mod CourseStep
pub mod CoverLaws
pub mod CoverRuns
pub mod EventLaws
pub mod FramedBack
pub mod FramedCopies
pub mod FramedHop
pub mod FramedPdus
pub mod FramedWorld
pub mod LedgerStep
pub mod PeerLaws
pub mod QuietLaws
pub mod ReadBack
pub mod RefusalLaws
pub mod SeenLaws
pub mod SentLaws
pub mod StartLaws
pub mod StayLaws
pub mod StillLaws
pub mod TransitLaws
pub mod TurnLaws
mod CarriedLaws
mod ShortLaws
