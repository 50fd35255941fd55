-- Lemmas, all proved where they stand. They are no definitions: nothing here has to be believed. They are in specs/
-- because a ghost member's value may cite only what stands there.
pub mod Same
pub mod NumberLaws
pub mod RankedLaws
