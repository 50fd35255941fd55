pub mod ShortLists
