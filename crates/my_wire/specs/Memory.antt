use Rattle.std.specs.Prelude.{◌≡◌, List, [], ℕ, drop, ◌++◌, ◌<◌, length, Option, Some, None}
use Rattle.std.proofs.Common.{sym, ◌∙◌, ap, append_assoc, refl}
use Rattle.std.proofs.lemmas.List.{append-nil}
use Rattle.my_wire.specs.declared.memory.files.MemFile.{MemFile}
use Rattle.my_wire.specs.declared.memory.files.MemFiles.{MemFiles}
use Rattle.my_wire.specs.declared.memory.source.MemSource.{MemSource}
use Rattle.my_wire.specs.declared.memory.sink.MemSink.{MemSink}
use Rattle.my_wire.specs.MemFile.{contents_at}

-- the bytes that a source in memory has left
abbrev pub left : MemSource → List ℕ
left s = drop s.at s.bytes.items

-- the bytes that a sink in memory took
abbrev pub taken : MemSink → List ℕ
taken s = s.bytes.items

-- how many bytes a sink in memory can take
abbrev pub room_of : MemSink → ℕ
room_of s = s.room

-- the files in memory
abbrev pub files_of : MemFiles → List MemFile
files_of s = s.files.items

-- the file of that path has these bytes, or, at None, too many
abbrev pub Holds : MemFiles → List ℕ → Option (List ℕ) → Type 0
Holds files path (Some bytes) = contents_at (files_of files) path ≡ Some bytes
Holds files path None = (bytes : List ℕ) × (contents_at (files_of files) path ≡ Some bytes) × (1048576 < length bytes)

pub left_nothing : (s : MemSource) → left s ≡ [] ++ left s
left_nothing s = refl

pub left_on : (s t u : MemSource) (a b : List ℕ) → left s ≡ a ++ left t → left t ≡ b ++ left u → left s ≡ (a ++ b) ++ left u
left_on s t u a b e f = e ∙ ap (λ x. a ++ x) f ∙ sym (append_assoc a b (left u))

pub taken_nothing : (s : MemSink) → taken s ≡ taken s ++ []
taken_nothing s = sym (append-nil (taken s))

pub taken_on : (s t u : MemSink) (a b : List ℕ) → taken t ≡ taken s ++ a → taken u ≡ taken t ++ b → taken u ≡ taken s ++ (a ++ b)
taken_on s t u a b e f = f ∙ ap (λ x. x ++ b) e ∙ append_assoc (taken s) a b
