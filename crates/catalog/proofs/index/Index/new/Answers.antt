use Rattle.std.proofs.Common.{◌≡◌, ◌∙◌, sym, subst, List, ℕ, [], false, string_bytes, get_or, Some}
use Rattle.std.specs.Prelude.{is_some}
use Rattle.std.specs.HashMap.{get_by_text}
use Rattle.std.proofs.lemmas.List.{get_or_read}
use Rattle.std.proofs.lemmas.Map.Text.{hash_map_updates_text}
use Rattle.catalog.proofs.Indexing.{kept, added}
use Rattle.catalog.proofs.index.Index.new.Goals as goal

pub loop-i-preserved-then-contains_key : goal.loop-i-preserved-then-contains_key
loop-i-preserved-then-contains_key c =
    let names = c.as_slice-name-items.result.now in
    let is_name : c.as_str.result.now ≡ get_or names c.loop-i.i [] = c.as_str.ensures ∙ get_or_read names c.loop-i.i c.name-item.result c.loop-i-test.true c.name-item.is [] in
    kept names c.loop-i.i c.as_str.result.now (get_by_text c.loop-i.places) c.loop-i-test.true is_name c.loop-i.invariant (sym c.contains_key.ensures ∙ c.if-contains_key.true)

pub loop-i-preserved : goal.loop-i-preserved
loop-i-preserved c =
    let names = c.as_slice-name-items.result.now in
    let key = string_bytes c.in_ok-key.key in
    let is_text : key ≡ c.as_str.result.now = c.in_ok-key.ensures.ok ∙ c.as_str-in-loop-i.ensures ∙ sym c.as_str.ensures in
    let is_name : key ≡ get_or names c.loop-i.i [] = is_text ∙ c.as_str.ensures ∙ get_or_read names c.loop-i.i c.name-item.result c.loop-i-test.true c.name-item.is [] in
    let gone : is_some (get_by_text c.loop-i.places key) ≡ false = subst (λ (t : List ℕ). is_some (get_by_text c.loop-i.places t) ≡ false) (sym is_text) (sym c.contains_key.ensures ∙ c.if-contains_key.false) in
    added names c.loop-i.i key (get_by_text c.loop-i.places) (get_by_text c.insert.new.self) c.loop-i-test.true is_name c.loop-i.invariant gone
    (hash_map_updates_text key c.loop-i.places c.insert.new.self (Some c.loop-i.i) c.in_ok-insert.ensures.updates)
