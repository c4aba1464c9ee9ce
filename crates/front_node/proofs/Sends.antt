use Rattle.std.proofs.Common.{◌≡◌, ◌++◌, List, [], ◌∷◌, refl, ap}
use Rattle.front_core.specs.declared.event.Output.{Output}
use Rattle.front_core.specs.declared.event.Output.TheVariants.{Send, Await, Decided, Acked, Answer}
use Rattle.front_core.specs.Outputs.{sends}

-- the requests of outputs, one list after the other
pub sends-append : (xs ys : List Output) → sends (xs ++ ys) ≡ sends xs ++ sends ys
sends-append [] ys = refl
sends-append (Send server request ∷ xs) ys = ap (λ rs. (server, request) ∷ rs) (sends-append xs ys)
sends-append (Await server ∷ xs) ys = sends-append xs ys
sends-append (Decided tx ∷ xs) ys = sends-append xs ys
sends-append (Acked tx ∷ xs) ys = sends-append xs ys
sends-append (Answer tx reply ∷ xs) ys = sends-append xs ys
