pub mod EntryListLaws
pub mod KeyLaws
pub mod PlaceLaws
pub mod SeenLaws
