-- Words of private functions. A reader who believes the definitions of the calls need not read them: what they say is tied
-- to those by the contracts of the public calls.
pub mod Splitting
pub mod Capping
