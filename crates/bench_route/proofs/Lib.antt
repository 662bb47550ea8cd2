pub mod OtherLaws
