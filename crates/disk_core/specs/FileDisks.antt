-- A real file as a disk, as contracts see it.
use Rattle.std.specs.Prelude.{ℕ}
use Rattle.disk_core.specs.declared.file.FileDisk.{FileDisk}

-- How often a call on it has failed.
abbrev pub faults_of : {F : Type 0} → FileDisk F → ℕ
faults_of d = d.faults
