use Rattle.std.proofs.Common.{◌≡◌, ℕ, List, [], Some, None, Option, OnOk, length, sym, ap, ◌∙◌, subst}
use Rattle.std.specs.Prelude.{slice_get}
use Rattle.std.proofs.lemmas.List.{append-nil}
use Rattle.catalog.specs.declared.tables.Table.{Table}
use Rattle.workload.specs.Generated.{Drawn, draws_of, onto, line_by, line_on, next_line}
use Rattle.workload.proofs.generator.Generator.push_line.Goals as goal

line_is : (tables : List Table) (x : ℕ) (d : Drawn) (o : Option Table) → d ≡ draws_of (length tables) x → o ≡ slice_get tables d.table → line_on d o ≡ next_line tables x
unfolding next_line
line_is tables x d o e h = ap (line_on d) h ∙ ap (line_by tables) e

pub returns-in-Some : goal.returns-in-Some
returns-in-Some c =
    let e = line_is c.args.tables.now c.args.self.now _ (Some c.in-Some.table.now) c.draws-draws.ensures c.in-Some.ensures in
    subst (λ made. OnOk c.push_line_on.result (◌≡◌ {A = List ℕ × ℕ} (c.push_line_on.new.text.items, c.push_line_on.new.self) (onto c.args.text.now.items made))) e c.push_line_on.ensures

no_line : (text : List ℕ) (state : ℕ) → ◌≡◌ {A = List ℕ × ℕ} (text, state) (onto text ([], state))
no_line text state = ap (λ t. (t, state)) (sym (append-nil text))

pub returns-in-None : goal.returns-in-None
returns-in-None c =
    let e = line_is c.args.tables.now c.args.self.now _ None c.draws-draws.ensures c.in-None.ensures in
    no_line c.args.text.now.items c.draws-draws.new.self ∙ ap (onto c.args.text.now.items) e
