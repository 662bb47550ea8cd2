pub mod ControlFrames
pub mod OwnLaws
pub mod PacketFrames
pub mod RowLaws
pub mod SendLaws
