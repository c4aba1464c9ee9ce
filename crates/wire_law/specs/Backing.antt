-- The servers in memory: a list of stores, each at its server's number.
use Rattle.std.specs.Prelude.{◌≡◌, ℕ, List, Some, set, slice_get}
use Rattle.sql_text.specs.declared.link.LinkAnswer.{LinkAnswer}
use Rattle.sql_text.specs.declared.link.LinkRequest.{LinkRequest}
use Rattle.branch_store.specs.Store.{Store, store_step}

-- what a store's request leaves of all stores, and its answer
abbrev pub stored_at : List Store → ℕ → Store × LinkAnswer → List Store × LinkAnswer
stored_at stores server b = (set stores server b.0, b.1)

-- that server was asked this request, on connection 1: its store answered so. A server that isn't there is never asked
abbrev pub asks_store : List Store → ℕ → LinkRequest → LinkAnswer → List Store → Type 0
asks_store stores server request answer left =
    (store : Store) × (slice_get stores server ≡ Some store) × ((left, answer) ≡ stored_at stores server (store_step store 1 request))
