-- A statement's transaction: the links that it asks, their servers' branches, and what is done with the rows.
use Rattle.std.specs.Prelude.{ℕ, ◌==◌, Bool, true, false, ◌&&◌, ◌||◌, not, List, [], ◌∷◌, ◌++◌, Option, Some, None, map, length, slice_get, if◌then◌else◌}
use Rattle.std.specs.Fmt.{decimal}
use Rattle.std.specs.List.{filter, flat_map, list_any, range_with_len}
use Rattle.std.specs.Option.{option_map_or}
use Rattle.sql_values.specs.declared.places.LockMode.{LockMode}
use Rattle.sql_values.specs.declared.places.LockMode.TheVariants.{Shared, Exclusive}
use Rattle.sql_values.specs.declared.places.Xid.{Xid}
use Rattle.sql_values.specs.declared.table.ColumnDef.{ColumnDef}
use Rattle.sql_values.specs.declared.table.Kind.{Kind}
use Rattle.sql_values.specs.declared.table.TableDef.{TableDef}
use Rattle.part_rules.specs.declared.rule.Rule.{Rule}
use Rattle.catalog.specs.declared.link.Link.{Link}
use Rattle.catalog.specs.declared.link.Status.{Status}
use Rattle.catalog.specs.declared.link.Status.TheVariants as status
use Rattle.catalog.specs.declared.tables.Part.{Part}
use Rattle.catalog.specs.declared.tables.Table.{Table}
use Rattle.catalog.specs.Links.{is_ok}
use Rattle.catalog.specs.Views.{View}
use Rattle.sql_text.specs.declared.statement.TableStatement.{TableStatement}
use Rattle.stmt_plan.specs.declared.planned.AnswerColumns.{AnswerColumns}
use Rattle.stmt_plan.specs.declared.planned.AnswerColumns.TheVariants as columns
use Rattle.stmt_plan.specs.declared.planned.Work.{Work}
use Rattle.stmt_plan.specs.declared.planned.Work.TheVariants as work
use Rattle.stmt_plan.specs.Inserts.{key_name}
use Rattle.stmt_plan.specs.Plans.{items_of, limit_of, mode_of, work_of}
use Rattle.stmt_plan.specs.Selects.{aggregates_of}
use Rattle.sql_replies.specs.Outcomes.{server_name}
use Rattle.txn_phases.specs.declared.deed.Deed.{Deed}
use Rattle.txn_phases.specs.declared.deed.Deed.TheVariants as deed
use Rattle.txn_phases.specs.declared.job.Job.{Job}
use Rattle.txn_phases.specs.declared.job.TableScan.{TableScan}
use Rattle.txn_phases.specs.declared.phase.Branch.{Branch}
use Rattle.txn_phases.specs.declared.phase.Target.{Target}
use Rattle.txn_phases.specs.Deeds.{placed}
use Rattle.txn_phases.specs.Phases.{new_job}
use Rattle.front_core.specs.declared.event.TxNo.{TxNo}
use Rattle.front_core.specs.Asked.{pushed, parts_asked}

-- LINKS

abbrev pub is_ng : Status → Bool
is_ng status.Ok = false
is_ng status.Recovery = false
is_ng status.Ng = true

-- each link that isn't NG, and whether its rows count: those of the first one that is OK do, unless one has been found
abbrev pub written : Bool → List Link → List (Link × Bool)
written found [] = []
written found (link ∷ links) = if is_ng link.first then written found links else (link, not found && is_ok link.first) ∷ written (found || is_ok link.first) links

-- the links that are asked: to change rows, all that are written; to read them, the one whose rows count
abbrev pub links_asked : LockMode → List Link → List (Link × Bool)
links_asked Exclusive links = written false links
links_asked Shared links = filter (λ x. x.1) (written false links)

abbrev pub links_at : List Part → ℕ → List Link
links_at parts p = option_map_or (λ (part : Part). part.links) (slice_get parts p) []

abbrev pub target_at : ℕ → Link × Bool → Target
target_at p (link, counts) = record { part = p; server = link.server; remote = link.remote; counts = counts }

abbrev pub part_targets : LockMode → List Part → ℕ → List Target
part_targets mode parts p = map (target_at p) (links_asked mode (links_at parts p))

-- in the order of partitions, then of links
abbrev pub targets_of : LockMode → List Part → List ℕ → List Target
targets_of mode parts ps = flat_map (part_targets mode parts) ps

-- BRANCHES

-- FRONT.BOOT.NUMBER
abbrev pub gtrid_of : List ℕ → TxNo → List ℕ
gtrid_of front tx = front ++ (46 ∷ (decimal tx.boot ++ (46 ∷ decimal tx.number)))

-- the name of a transaction's branch at a server
abbrev pub xid_at : View → TxNo → ℕ → Xid
xid_at catalog tx server = record { gtrid = gtrid_of catalog.front.name tx; bqual = server_name catalog.servers server }

abbrev pub branch_at : View → TxNo → ℕ → Branch
branch_at catalog tx server = record { server = server; xid = xid_at catalog tx server; begun = false }

-- the servers of these links, rising, each once
abbrev pub servers_of : ℕ → List Target → List ℕ
servers_of servers targets = filter (λ server. list_any (λ (t : Target). t.server == server) targets) (range_with_len 0 servers)

abbrev pub branches_of : View → TxNo → List Target → List Branch
branches_of catalog tx targets = map (branch_at catalog tx) (servers_of (length catalog.servers) targets)

-- THE JOB

abbrev pub kinds_of : TableDef → List Kind
kinds_of def = map (λ (column : ColumnDef). column.kind) def.columns

abbrev pub scan_for : TableDef → TableStatement → TableScan
scan_for def s = record { key = key_name def; place = def.key; kinds = kinds_of def; items = items_of s; cond = pushed def s; limit = limit_of def s; lock = mode_of s }

abbrev pub deed_by : TableDef → Rule → Work → Deed
deed_by def rule (work.Insert rows) = deed.Insert (map (placed def rule) rows)
deed_by def rule (work.Select selected) = deed.Select selected.order selected.skip selected.most
deed_by def rule (work.Aggregate list) = deed.Aggregate (aggregates_of list)
deed_by def rule (work.Update sets) = deed.Update (record { table = def; rule = rule; sets = sets })
deed_by def rule work.Delete = deed.Delete rule

-- the columns of the answer, where the statement asks for some
abbrev pub columns_by : Work → Option AnswerColumns
columns_by (work.Select selected) = Some (columns.Picks selected.picks)
columns_by (work.Aggregate list) = Some (columns.Cells list)
columns_by _ = None

-- the links that a statement asks
abbrev pub targets_for : Table → TableStatement → List Target
targets_for table s = targets_of (mode_of s) table.parts (parts_asked table.def table.rule s)

-- a statement that breaks no rule on its table, as the transaction of that number
abbrev pub job_of : View → TxNo → Table → TableStatement → Job
job_of catalog tx table s =
    new_job (branches_of catalog tx (targets_for table s)) (targets_for table s) (scan_for table.def s) (deed_by table.def table.rule (work_of table.def s))
