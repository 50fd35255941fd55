-- Words of private functions and of the index. A reader who believes the definitions of the format need not read them:
-- what they say is tied to those by the contracts of the public calls.
pub mod Scanning
pub mod Indexes
pub mod Writing
