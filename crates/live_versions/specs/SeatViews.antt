-- Private: what a reader's or the publisher's seat knows of the store.
use Rattle.std.specs.Prelude.{List, []}
use Rattle.logbook.specs.Pages.{Book}
use Rattle.live_set.specs.Loads.{LoadValue}

-- the book, if it is known, and the batches that were seen
pub record ViewValue : Type 0 where
  pub books : List Book
  pub batches : List (List LoadValue)

-- nothing is known or seen
abbrev pub fresh_view : ViewValue
fresh_view = record { books = []; batches = [] }
