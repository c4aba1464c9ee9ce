-- A batch of a copy from one link to another.
use Rattle.std.specs.Prelude.{◌≡◌, ℕ, Bool, true, false, ◌||◌, leb, List, [], ◌∷◌, None}
use Rattle.commit_protocol.specs.Rows.{Interval, is_in_one}
use Rattle.commit_protocol.specs.Links.{Plain, Placement, Cursor, Mark}
use Rattle.commit_protocol.specs.Links.Cursor.{Nothing, Up_to, All}
use Rattle.commit_protocol.specs.Notes.{Went, Note}
use Rattle.commit_protocol.specs.Notes.Note.{Read, Write}

-- A batch of a copy: the keys of an interval, which the source's scan gave, are cleared at the destination and put there anew.
pub record CopyBatch : Type 0 where
  pub source : Went
  pub target : Went
  pub keys : Interval
  pub rows : Plain
  pub puts : List (List Interval)
  pub upto : Cursor

-- Rows are put by one or several requests, or none where there are none.
abbrev pub is_put : List (List Interval) → ℕ → Bool
is_put [] k = false
is_put (keys ∷ more) k = is_in_one keys k || is_put more k

-- The puts of a batch, noted on what went before.
abbrev pub puts_onto : Placement → CopyBatch → List (List Interval) → List Note → List Note
puts_onto p b [] notes = notes
puts_onto p b (keys ∷ more) notes = Write (p.link_partition b.target.link) keys b.rows (b.target ∷ []) ∷ puts_onto p b more notes

-- What a batch notes: a read of the source, a clear of the destination, and the puts.
abbrev pub copy_notes : Placement → CopyBatch → List Note
copy_notes p b = Write (p.link_partition b.target.link) (b.keys ∷ []) (λ k. None) (b.target ∷ []) ∷ Read (p.link_partition b.source.link) (b.keys ∷ []) (λ t. t) b.rows (b.source ∷ []) ∷ []

-- All that a batch notes.
abbrev pub batch_notes : Placement → CopyBatch → List Note
batch_notes p b = puts_onto p b b.puts (copy_notes p b)

-- How far a batch brings its destination.
abbrev pub batch_mark : CopyBatch → Mark
batch_mark b = record { link = b.target.link; epoch = b.target.epoch; upto = b.upto }

-- A batch ends at its last key, or at the greatest key of the partition.
abbrev pub EndsAt : Placement → CopyBatch → Cursor → Type 0
EndsAt p b Nothing = ⊥
EndsAt p b (Up_to c) = c ≡ b.keys.to
EndsAt p b All = (k : ℕ) → p.key_partition k ≡ p.link_partition b.target.link → leb k b.keys.to ≡ true
