-- At one server no footprints of two live branches conflict.
use Rattle.std.proofs.Common.{◌≡◌, ◌≢◌, ℕ, Bool, false, List, [], ◌∷◌, Some, sym, ◌∙◌, subst, arith, ◌⊎◌, inl, inr}
use Rattle.std.proofs.lemmas.Bool.Decides.{nat_tests}
use Rattle.commit_protocol.specs.Rows.{Table, Footprint, footprint_of, blocks, AreApart}
use Rattle.commit_protocol.specs.Backend.{Branch, Server, Request, Effect, Call, find, kept, put, blocked, effect, done, called, calls, new_server}
use Rattle.commit_protocol.specs.Backend.Call.{Asks, Hangs_up, Stops}
use Rattle.protocol_law.proofs.Branches.{AreDistinct, find_kept, find_put, distinct_kept, distinct_put}
use Rattle.protocol_law.proofs.Logs.{apart_nil, apart_grown}
use Rattle.protocol_law.proofs.Effects.{Did, did}
use Rattle.protocol_law.proofs.Effects.Did.{Kept, Showed, Begun, Grew, Closed, Readied, Dropped, Installed}

abbrev pub EachApart : List Branch → Type 0
EachApart bs = (x y : ℕ) (a b : Branch) → find x bs ≡ Some a → find y bs ≡ Some b → x ≢ y → AreApart a.log b.log

pub record IsLocked (s : Server) : Type 0 where
  pub distinct : AreDistinct s.branches
  pub apart : EachApart s.branches

pub not_blocked : (x : ℕ) (s : Footprint) (bs : List Branch) (y : ℕ) (b : Branch) → blocked x s bs ≡ false → find y bs ≡ Some b → y ≢ x → blocks s b.log ≡ false
not_blocked x s [] y b h f ne = cc
not_blocked x s (d ∷ bs) y b h f ne = grind (arith, nat_tests, not_blocked x s bs y b)

-- what a look-up in a list with one branch put finds: that one, or one of the others
pub put_cases : (b : Branch) (bs : List Branch) (x : ℕ) (a : Branch) → find x (put b bs) ≡ Some a → ((b.xid ≡ x) × (b ≡ a)) ⊎ ((x ≢ b.xid) × (find x bs ≡ Some a))
put_cases b bs x a h = grind (arith, nat_tests, find_put b bs x)

apart_put : (b : Branch) (bs : List Branch) → EachApart bs → ((y : ℕ) (a : Branch) → find y bs ≡ Some a → y ≢ b.xid → AreApart b.log a.log × AreApart a.log b.log) → EachApart (put b bs)
apart_put b bs old new x y a d f g ne = two (put_cases b bs x a f) (put_cases b bs y d g)
  where
    two : ((b.xid ≡ x) × (b ≡ a)) ⊎ ((x ≢ b.xid) × (find x bs ≡ Some a)) → ((b.xid ≡ y) × (b ≡ d)) ⊎ ((y ≢ b.xid) × (find y bs ≡ Some d)) → AreApart a.log d.log
    two (inl p) (inl q) = absurd (ne (sym p.0 ∙ q.0))
    two (inl p) (inr q) = subst (λ (e : Branch). AreApart e.log d.log) p.1 (new y d q.1 q.0).0
    two (inr p) (inl q) = subst (λ (e : Branch). AreApart a.log e.log) q.1 (new x a p.1 p.0).1
    two (inr p) (inr q) = old x y a d p.1 q.1 ne

pub locked_put : (s : Server) (b : Branch) → IsLocked s → ((y : ℕ) (a : Branch) → find y s.branches ≡ Some a → y ≢ b.xid → AreApart b.log a.log × AreApart a.log b.log) → IsLocked (record s { branches = put b s.branches })
locked_put s b i new = record { distinct = distinct_put b s.branches i.distinct; apart = apart_put b s.branches i.apart new }

pub locked_kept : (s : Server) (p : Branch → Bool) (t : Table) → IsLocked s → IsLocked (record { rows = t; branches = kept p s.branches })
locked_kept s p t i = record {
  distinct = distinct_kept p s.branches i.distinct;
  apart = λ x y a b f g ne. i.apart x y a b (find_kept p x a s.branches i.distinct f).0 (find_kept p y b s.branches i.distinct g).0 ne;
}

pub locked_done : (s : Server) (c : ℕ) (r : Request) (e : Effect) → Did s c r e → IsLocked s → IsLocked (done s e)
locked_done s c r e Kept i = i
locked_done s c r e Showed i = i
locked_done s c r e (Begun f o) i = locked_put s _ i (λ y a g ne. (tt, apart_nil a.log))
locked_done s c r e (Grew {b = b} {op = op} f mine stage free right locks) i = locked_put s _ i (λ y a g ne.
    let clear : blocks (footprint_of op) a.log ≡ false = not_blocked b.xid (footprint_of op) s.branches y a free g ne in
    ((clear, i.apart b.xid y b a f g (λ q. ne (sym q))), apart_grown a.log b.log op (i.apart y b.xid a b g f ne) clear))
locked_done s c r e (Closed {b = b} f mine stage) i = locked_put s _ i (λ y a g ne. (i.apart b.xid y b a f g (λ q. ne (sym q)), i.apart y b.xid a b g f ne))
locked_done s c r e (Readied {b = b} f mine stage) i = locked_put s _ i (λ y a g ne. (i.apart b.xid y b a f g (λ q. ne (sym q)), i.apart y b.xid a b g f ne))
locked_done s c r e (Dropped f w) i = locked_kept s _ _ i
locked_done s c r e (Installed f stage) i = locked_kept s _ _ i

pub locked_called : (s : Server) (e : Call) → IsLocked s → IsLocked (called s e)
locked_called s (Asks c r) i = locked_done s c r (effect s c r) (did s c r i.distinct) i
locked_called s (Hangs_up c) i = locked_kept s _ _ i
locked_called s Stops i = locked_kept s _ _ i

pub locked_calls : (es : List Call) (s : Server) → IsLocked s → IsLocked (calls es s)
locked_calls [] s i = i
locked_calls (e ∷ es) s i = locked_calls es (called s e) (locked_called s e i)

pub locked_new : IsLocked new_server
locked_new = record { distinct = tt; apart = λ x y a b f g ne. cc }
