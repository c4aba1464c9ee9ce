-- Lists of records as contracts see them.
use Rattle.std.specs.Prelude.{ℕ, ◌-◌, List, vec_capacity, vec_len}
use Rattle.record_log.specs.declared.records.Records.{Records}

-- The records of a list, each as its bytes.
abbrev pub list_of : Records → List (List ℕ)
list_of r = r.inner.items

-- How many records more the list takes without taking memory.
abbrev pub slots_of : Records → ℕ
slots_of r = vec_capacity r.inner - vec_len r.inner
