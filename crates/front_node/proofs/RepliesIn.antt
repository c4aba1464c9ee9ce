use Rattle.std.proofs.Common.{◌≡◌, ◌++◌, List, [], ◌∷◌, Option, Some, None, refl, sym, ap, ◌∙◌}
use Rattle.std.specs.Prelude.{IfSome}
use Rattle.std.specs.Option.{option_or}
use Rattle.my_messages.specs.Reply.{HasBytes}
use Rattle.my_messages.specs.declared.reply.Reply.{Reply}
use Rattle.front_core.specs.declared.event.Output.{Output}
use Rattle.front_core.specs.declared.event.Output.TheVariants.{Send, Await, Decided, Acked, Answer}
use Rattle.front_core.specs.Outputs.{AnswersHaveBytes}
use Rattle.front_node.specs.Asking.{reply_in}

pub or_assoc : {A : Type 0} (a b c : Option A) → option_or (option_or a b) c ≡ option_or a (option_or b c)
or_assoc None b c = refl
or_assoc (Some x) b c = refl

pub or_none : {A : Type 0} (a : Option A) → option_or a None ≡ a
or_none None = refl
or_none (Some x) = refl

-- the answer among outputs, one list after the other
pub reply_in-append : (xs ys : List Output) → reply_in (xs ++ ys) ≡ option_or (reply_in ys) (reply_in xs)
reply_in-append [] ys = sym (or_none (reply_in ys))
reply_in-append (Answer tx reply ∷ xs) ys = ap (λ o. option_or o (Some reply)) (reply_in-append xs ys) ∙ or_assoc (reply_in ys) (reply_in xs) (Some reply)
reply_in-append (Send server request ∷ xs) ys = reply_in-append xs ys
reply_in-append (Await server ∷ xs) ys = reply_in-append xs ys
reply_in-append (Decided tx ∷ xs) ys = reply_in-append xs ys
reply_in-append (Acked tx ∷ xs) ys = reply_in-append xs ys

first_has : (o : Option Reply) (reply : Reply) → IfSome o HasBytes → HasBytes reply → IfSome (option_or o (Some reply)) HasBytes
first_has None reply h k = k
first_has (Some other) reply h k = h

-- it fits packets
pub reply_has_bytes : (outputs : List Output) → AnswersHaveBytes outputs → IfSome (reply_in outputs) HasBytes
reply_has_bytes [] h = tt
reply_has_bytes (Answer tx reply ∷ outputs) h = first_has (reply_in outputs) reply (reply_has_bytes outputs h.1) h.0
reply_has_bytes (Send server request ∷ outputs) h = reply_has_bytes outputs h
reply_has_bytes (Await server ∷ outputs) h = reply_has_bytes outputs h
reply_has_bytes (Decided tx ∷ outputs) h = reply_has_bytes outputs h
reply_has_bytes (Acked tx ∷ outputs) h = reply_has_bytes outputs h

-- so does either of two
pub either_has : (a b : Option Reply) → IfSome a HasBytes → IfSome b HasBytes → IfSome (option_or a b) HasBytes
either_has None b h k = k
either_has (Some reply) b h k = h
