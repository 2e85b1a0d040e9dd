-- Every call is refused by the table alone, and a refused call changes nothing.
pub mod Ladder
pub mod Tests
pub mod AtCursor
pub mod AtBoth
pub mod OnList
pub mod Placing
pub mod Reads
pub mod Walks
pub mod Audits
pub mod Lowest
pub mod All
