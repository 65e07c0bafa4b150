-- the definition's own laws: `euler_cycles`, then `rbmg_split_into_two`
pub mod Taken
pub mod Trail
pub mod Walks
pub mod Tours
pub mod EulerLaws
pub mod Dealing
pub mod SplitLaws
-- the definition's walks as one, and its pairs by their places
pub mod Straight
pub mod Places
pub mod Odds
pub mod HalfLaws
-- the graph in words
pub mod StoredGraphs
pub mod Grounds
-- words that a split writes
pub mod Puts
pub mod Notes
pub mod EntryLaws
