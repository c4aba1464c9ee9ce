use Rattle.std.proofs.Common.{◌≡◌, List, ℕ, sym, ◌∙◌}
use Rattle.record_log.specs.RecordLists.{list_of}
use Rattle.record_log.specs.declared.fault.LogFault.TheVariants.{NotALog}
use Rattle.record_log.specs.declared.files.Found.{Found}
use Rattle.record_log.proofs.Told.{err_is, err_of}
use Rattle.record_log.proofs.FilesFound.{mark_is, leads_is, is_log, none_current, none_main, none_spare, refused}
use Rattle.record_log.proofs.files.read_files.Goals as goal

same_found : (f g : List ℕ) (m n : ℕ) → NotALog f m ≡ NotALog g n → f ≡ g
same_found f g m n is = cc

same_size : (f g : List ℕ) (m n : ℕ) → NotALog f m ≡ NotALog g n → m ≡ n
same_size f g m n is = cc

pub returns-in-Ok-clause-told : goal.returns-in-Ok-clause-told
returns-in-Ok-clause-told g c = λ a b is_a is_b.
    let of_a = c.in_ok-first.ensures.told a is_a in
    let of_b = c.in_ok-second.ensures.told b is_b in
    is_log
    a.seen
    b.seen
    (list_of c.in-Ok.body.records)
    c.in-Ok.body.size
    (sym (mark_is a.seen b.seen _ _ of_a of_b) ∙ sym c.has_mark.ensures ∙ c.if-not-has_mark.false)
    (sym (mark_is b.seen a.seen _ _ of_b of_a) ∙ sym c.has_mark-else-not-has_mark.ensures ∙ c.if-not-has_mark-2.false)
    (sym (leads_is a.seen b.seen _ _ of_a of_b) ∙ sym c.is_current.ensures ∙ c.if-is_current.true)
    (c.in-Ok.ensures.told a (c.read_head.ensures.state ∙ is_a) of_a)

pub returns-in-Err-clause-refused : goal.returns-in-Err-clause-refused
returns-in-Err-clause-refused g c = λ found size is a b is_a is_b.
    let of_a = c.in_ok-first.ensures.told a is_a in
    let of_b = c.in_ok-second.ensures.told b is_b in
    let broken = c.in-Err.ensures.broken found size (err_of c.in-Err.fault (NotALog found size) (err_is {T = Found} c.in-Err.fault (NotALog found size) is)) in
    let same = broken.0 ∙ c.refusal-fault.ensures in
    refused a.seen b.seen _ _ found size of_a of_b
    (none_main a.seen b.seen (sym (leads_is a.seen b.seen _ _ of_a of_b) ∙ sym c.is_current.ensures ∙ c.if-is_current.true) (broken.1 a (c.read_head.ensures.state ∙ is_a) of_a))
    (same_found _ _ _ _ same)
    (same_size _ _ _ _ same)

pub returns-in-Ok-read_current-clause-told : goal.returns-in-Ok-read_current-clause-told
returns-in-Ok-read_current-clause-told g c = λ a b is_a is_b.
    let of_a = c.in_ok-first.ensures.told a is_a in
    let of_b = c.in_ok-second.ensures.told b is_b in
    is_log
    b.seen
    a.seen
    (list_of c.in-Ok-read_current.body.records)
    c.in-Ok-read_current.body.size
    (sym (mark_is b.seen a.seen _ _ of_b of_a) ∙ sym c.has_mark-else-not-has_mark.ensures ∙ c.if-not-has_mark-2.false)
    (sym (mark_is a.seen b.seen _ _ of_a of_b) ∙ sym c.has_mark.ensures ∙ c.if-not-has_mark.false)
    (sym (leads_is b.seen a.seen _ _ of_b of_a) ∙ sym c.is_current-2.ensures ∙ c.if-is_current-2.true)
    (c.in-Ok-read_current.ensures.told b (c.read_head-2.ensures.state ∙ is_b) of_b)

pub returns-in-Err-read_current-clause-refused : goal.returns-in-Err-read_current-clause-refused
returns-in-Err-read_current-clause-refused g c = λ found size is a b is_a is_b.
    let of_a = c.in_ok-first.ensures.told a is_a in
    let of_b = c.in_ok-second.ensures.told b is_b in
    let broken = c.in-Err-read_current.ensures.broken found size (err_of c.in-Err-read_current.fault (NotALog found size) (err_is {T = Found} c.in-Err-read_current.fault (NotALog found size) is)) in
    let same = broken.0 ∙ c.refusal-fault.ensures in
    refused a.seen b.seen _ _ found size of_a of_b
    (none_spare a.seen b.seen (sym (leads_is a.seen b.seen _ _ of_a of_b) ∙ sym c.is_current.ensures ∙ c.if-is_current.false) (sym (leads_is b.seen a.seen _ _ of_b of_a) ∙ sym c.is_current-2.ensures ∙ c.if-is_current-2.true) (broken.1 b (c.read_head-2.ensures.state ∙ is_b) of_b))
    (same_found _ _ _ _ same)
    (same_size _ _ _ _ same)

pub returns-clause-refused : goal.returns-clause-refused
returns-clause-refused g c = λ found size is a b is_a is_b.
    let of_a = c.in_ok-first.ensures.told a is_a in
    let of_b = c.in_ok-second.ensures.told b is_b in
    let same = sym (err_is {T = Found} c.refusal-fault.result (NotALog found size) is) ∙ c.refusal-fault.ensures in
    refused a.seen b.seen _ _ found size of_a of_b
    (none_current a.seen b.seen (sym (leads_is a.seen b.seen _ _ of_a of_b) ∙ sym c.is_current.ensures ∙ c.if-is_current.false) (sym (leads_is b.seen a.seen _ _ of_b of_a) ∙ sym c.is_current-2.ensures ∙ c.if-is_current-2.false))
    (same_found _ _ _ _ same)
    (same_size _ _ _ _ same)
