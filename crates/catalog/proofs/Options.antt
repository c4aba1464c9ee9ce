-- What follows from an answer that is there, or isn't.
use Rattle.std.proofs.Common.{◌≡◌, ℕ, suc, zero, Bool, true, false, cond, ◌&&◌, List, [], ◌∷◌, Option, Some, None, length, refl, sym, ap, ◌∙◌, subst}
use Rattle.std.specs.List.{slice_get}
use Rattle.std.specs.Option.{option_and_then, option_map, option_or, option_zip, is_some}
use Rattle.std.proofs.lemmas.Option.{same_Some}
use Rattle.catalog.specs.Searches.{each, put, first}

-- an answer came from one that was there
pub record There {X Y : Type 0} (f : X → Option Y) (o : Option X) (y : Y) : Type 0 where
  pub at : X
  pub is : o ≡ Some at
  pub gives : f at ≡ Some y

pub there : {X Y : Type 0} (f : X → Option Y) (o : Option X) (y : Y) → option_and_then f o ≡ Some y → There f o y
there f None y h = absurd (cc)
there f (Some x) y h = record { at = x; is = refl; gives = h }

pub record Mapped {X Y : Type 0} (f : X → Y) (o : Option X) (y : Y) : Type 0 where
  pub at : X
  pub is : o ≡ Some at
  pub gives : f at ≡ y

pub mapped : {X Y : Type 0} (f : X → Y) (o : Option X) (y : Y) → option_map f o ≡ Some y → Mapped f o y
mapped f None y h = absurd (cc)
mapped f (Some x) y h = record { at = x; is = refl; gives = same_Some (f x) y h }

pub zipped : {X Y : Type 0} (a : Option X) (b : Option Y) (z : X × Y) → option_zip a b ≡ Some z → (a ≡ Some z.0) × (b ≡ Some z.1)
zipped {X} {Y} None b z h = absurd (cc)
zipped {X} {Y} (Some x) None z h = absurd (cc)
zipped {X} {Y} (Some x) (Some y) z h =
    let e : (x, y) ≡ z = same_Some (x, y) z h in
    (ap (λ (p : X × Y). Some p.0) e, ap (λ (p : X × Y). Some p.1) e)

pub chosen : {X : Type 0} (b : Bool) (o : Option X) (x : X) → cond b o None ≡ Some x → (b ≡ true) × (o ≡ Some x)
chosen true o x h = (refl, h)
chosen false o x h = absurd (cc)

pub neither : {X : Type 0} (a b : Option X) → option_or a b ≡ None → (a ≡ None) × (b ≡ None)
neither None b h = (refl, h)
neither (Some x) b h = absurd (cc)

pub record IsThere {X : Type 0} (o : Option X) : Type 0 where
  pub at : X
  pub is : o ≡ Some at

pub some_of : {X : Type 0} (o : Option X) → is_some o ≡ true → IsThere o
some_of None h = absurd (cc)
some_of (Some x) h = record { at = x; is = refl }

-- a fault that isn't told
pub untold : {X : Type 0} (b : Bool) (fault : X) → cond b None (Some fault) ≡ None → b ≡ true
untold true fault h = refl
untold false fault h = absurd (cc)

pub not_told : {X : Type 0} (b : Bool) (fault : X) → cond b (Some fault) None ≡ None → b ≡ false
not_told true fault h = absurd (cc)
not_told false fault h = refl

pub and_true : (b c : Bool) → (b && c) ≡ true → (b ≡ true) × (c ≡ true)
and_true true c h = (refl, h)
and_true false c h = absurd (cc)

pub record PutFrom {Y : Type 0} (y : Option Y) (ys : Option (List Y)) (zs : List Y) : Type 0 where
  pub head : Y
  pub rest : List Y
  pub head_is : y ≡ Some head
  pub rest_is : ys ≡ Some rest
  pub both : head ∷ rest ≡ zs

pub put_some : {Y : Type 0} (y : Option Y) (ys : Option (List Y)) (zs : List Y) → put y ys ≡ Some zs → PutFrom y ys zs
put_some None ys zs h = absurd (cc)
put_some (Some y) None zs h = absurd (cc)
put_some (Some y) (Some ys) zs h = record { head = y; rest = ys; head_is = refl; rest_is = refl; both = same_Some (y ∷ ys) zs h }

-- as many results as there are elements
pub each_length : {X Y : Type 0} (f : X → Option Y) (xs : List X) (ys : List Y) → each f xs ≡ Some ys → length ys ≡ length xs
each_length f [] ys h = ap length (sym (same_Some [] ys h))
each_length f (x ∷ xs) ys h =
    let p = put_some (f x) (each f xs) ys h in
    sym (ap length p.both) ∙ ap suc (each_length f xs p.rest p.rest_is)

-- an element of which a result came
pub record From {X Y : Type 0} (f : X → Option Y) (y : Y) : Type 0 where
  pub at : X
  pub gives : f at ≡ Some y

from_same : {X Y : Type 0} (f : X → Option Y) (x : X) (a b : Y) → f x ≡ Some a → Some a ≡ Some b → From f b
from_same f x a b is same = record { at = x; gives = is ∙ same }

pub each_at : {X Y : Type 0} (f : X → Option Y) (xs : List X) (ys : List Y) (i : ℕ) (y : Y) → each f xs ≡ Some ys → slice_get ys i ≡ Some y → From f y
each_at f [] ys i y h k = let e : [] ≡ ys = same_Some [] ys h in absurd (let gone : slice_get [] i ≡ Some y = subst (λ l. slice_get l i ≡ Some y) (sym e) k in cc)
each_at f (x ∷ xs) ys zero y h k =
    let p = put_some (f x) (each f xs) ys h in
    from_same f x p.head y p.head_is (subst (λ l. slice_get l 0 ≡ Some y) (sym p.both) k)
each_at f (x ∷ xs) ys (suc i) y h k =
    let p = put_some (f x) (each f xs) ys h in
    each_at f xs p.rest i y p.rest_is (subst (λ l. slice_get l (suc i) ≡ Some y) (sym p.both) k)

-- where there is a result for each element, there are all
pub each_there : {X Y : Type 0} (f : X → Option Y) (xs : List X) → ((i : ℕ) (x : X) → slice_get xs i ≡ Some x → IsThere (f x)) → IsThere (each f xs)
each_there f [] h = record { at = []; is = refl }
each_there f (x ∷ xs) h =
    let here = h 0 x refl in
    let rest = each_there f xs (λ i y k. h (suc i) y k) in
    record { at = here.at ∷ rest.at; is = rw (here.is, rest.is) refl }

-- nothing is found at an element, where nothing is found first
pub none_at : {X Y : Type 0} (f : X → Option Y) (xs : List X) (i : ℕ) (x : X) → first f xs ≡ None → slice_get xs i ≡ Some x → f x ≡ None
none_at f [] i x h k = absurd (cc)
none_at f (x ∷ xs) zero y h k = subst (λ z. f z ≡ None) (same_Some x y k) (neither (f x) (first f xs) h).0
none_at f (x ∷ xs) (suc i) y h k = none_at f xs i y (neither (f x) (first f xs) h).1 k
