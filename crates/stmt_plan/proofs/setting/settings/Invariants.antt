use Rattle.std.proofs.Common.{◌≡◌, ◌&&◌, take, drop}
use Rattle.stmt_plan.specs.Chosen.{unknown_fault}
use Rattle.stmt_plan.specs.Settings.{assigned_columns, settings, sets_fit}
use Rattle.stmt_plan.proofs.setting.settings.Given as goal

abbrev pub invariant-loop-assignment : goal.invariant-loop-assignment
invariant-loop-assignment l = record {
  set : l.sets ≡ settings l.table (take l.assignment-index l.assignments);
  fit : (l.fit && sets_fit l.table (settings l.table (drop l.assignment-index l.assignments))) ≡ sets_fit l.table (settings l.table l.assignments);
  known : unknown_fault l.table (assigned_columns (drop l.assignment-index l.assignments)) ≡ unknown_fault l.table (assigned_columns l.assignments);
}
