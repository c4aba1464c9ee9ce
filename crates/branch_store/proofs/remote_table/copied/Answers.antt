use Rattle.std.proofs.Common.{rules, Ok, Err, IfOk, Result, MatchResult}
use Rattle.std.proofs.lemmas.Map.Entries.{entries_from_clone}
use Rattle.std.proofs.lemmas.List.Elements.{same_from_all_zip}
use Rattle.branch_store.proofs.remote_table.copied.Goals as goal

weaker : {T E : Type 0} (r : Result T E) (P Q : T → Type 0) (R : E → Type 0) → ((x : T) → P x → Q x) → MatchResult r P R → IfOk r Q
weaker (Ok x) P Q R f h = f x h
weaker (Err e) P Q R f h = tt

pub returns : goal.returns
returns c = weaker c.clone.result _ _ _ (λ copy same. entries_from_clone _ _ (λ x y e. search rules) (λ v w e. same_from_all_zip _ v w e (λ x y k. search rules)) c.args.rows.now.entries copy.entries same) c.clone.ensures.cases
