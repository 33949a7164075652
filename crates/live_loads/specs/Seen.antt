-- What a reader, a notice or a publisher has seen of a store.
use Rattle.std.specs.Prelude.{List}
use Rattle.logbook.specs.Pages.{Book}
use Rattle.live_set.specs.Loads.{LoadValue}

-- which store it is, by the book that it keeps, and a beginning of the batches published in it
pub record SeenValue : Type 0 where
  pub book : Book
  pub batches : List (List LoadValue)
