-- Words of link text as they are written, and their tokens.
use Rattle.std.proofs.Common.{◌≡◌, ℕ, List, [], ◌∷◌, ◌++◌, Bool, true, false, Some, refl, sym, ap, subst, append_assoc, arith, codes}
use Rattle.sql_text.specs.declared.token.Fixed.{Fixed}
use Rattle.sql_text.specs.declared.token.Fixed.TheVariants.{Into, Commit, End, Prepare, Recover, Replace, Rollback, Start, Xa}
use Rattle.sql_text.specs.declared.token.Token.TheVariants as tokens
use Rattle.sql_text.specs.Tokens.{lexeme_at, seen, as_link}
use Rattle.sql_text.proofs.Written.{Has, has_token, has_blank, apart_from, behind_token, Atom, PrefixAt, Prefix, prefix_atom, prefix_prefix}
use Rattle.sql_text.proofs.Lexemes as lexemes

pub link_fixes : lexemes.Fixes as_link
link_fixes = record { fixed = λ f. refl; quoted = λ n. refl; digits = λ z. refl; signed = λ z. refl; text = λ t. refl }

-- Words of link text alone are names to the lexer, so a sign behind one would be an operator; none stands there.

-- a word and a blank behind it
word_prefix : {operand : Bool} (c : ℕ) (cs : List ℕ) (f : Fixed) → ((operand : Bool) (rest : List ℕ) → lexeme_at operand (c ∷ (cs ++ (32 ∷ rest))) ≡ (Some (tokens.Bare (c ∷ cs)), 32 ∷ rest)) → as_link (tokens.Bare (c ∷ cs)) ≡ tokens.Fixed f
    → lexemes.is_plain (c ∷ (cs ++ (32 ∷ []))) ≡ true → PrefixAt as_link operand true (c ∷ (cs ++ (32 ∷ []))) (tokens.Fixed f ∷ [])
word_prefix {operand} c cs f e is u = record {
  reads = λ rest more again.
      subst (λ (l : List ℕ). Has as_link (apart_from operand) (c ∷ l) (tokens.Fixed f ∷ more)) (sym (append_assoc cs (32 ∷ []) rest))
      (has_token as_link (apart_from operand) c (cs ++ (32 ∷ rest)) (tokens.Bare (c ∷ cs)) (tokens.Fixed f) true (32 ∷ rest) more is refl (e operand rest) refl refl (lexemes.length_later cs (32 ∷ rest)) (has_blank as_link (behind_token c true) rest more again));
  utf8 = lexemes.plain_utf8 (c ∷ (cs ++ (32 ∷ []))) u;
}

-- ---- branches

pub xa_prefix : PrefixAt as_link false true (codes "XA ") (tokens.Fixed Xa ∷ [])
xa_prefix = word_prefix 88 (codes "A") Xa (λ operand rest. refl) refl refl

-- XA and another word
xa_word : (word : List ℕ) (f : Fixed) → PrefixAt as_link true true word (tokens.Fixed f ∷ []) → PrefixAt as_link false true (codes "XA " ++ word) (tokens.Fixed Xa ∷ tokens.Fixed f ∷ [])
xa_word word f p = prefix_prefix as_link (codes "XA ") word (tokens.Fixed Xa ∷ []) (tokens.Fixed f ∷ []) xa_prefix p

pub start_prefix : PrefixAt as_link false true (codes "XA START ") (tokens.Fixed Xa ∷ tokens.Fixed Start ∷ [])
start_prefix = xa_word (codes "START ") Start (word_prefix 83 (codes "TART") Start (λ operand rest. refl) refl refl)

pub end_prefix : PrefixAt as_link false true (codes "XA END ") (tokens.Fixed Xa ∷ tokens.Fixed End ∷ [])
end_prefix = xa_word (codes "END ") End (word_prefix 69 (codes "ND") End (λ operand rest. refl) refl refl)

pub prepare_prefix : PrefixAt as_link false true (codes "XA PREPARE ") (tokens.Fixed Xa ∷ tokens.Fixed Prepare ∷ [])
prepare_prefix = xa_word (codes "PREPARE ") Prepare (word_prefix 80 (codes "REPARE") Prepare (λ operand rest. refl) refl refl)

pub commit_prefix : PrefixAt as_link false true (codes "XA COMMIT ") (tokens.Fixed Xa ∷ tokens.Fixed Commit ∷ [])
commit_prefix = xa_word (codes "COMMIT ") Commit (word_prefix 67 (codes "OMMIT") Commit (λ operand rest. refl) refl refl)

pub rollback_prefix : PrefixAt as_link false true (codes "XA ROLLBACK ") (tokens.Fixed Xa ∷ tokens.Fixed Rollback ∷ [])
rollback_prefix = xa_word (codes "ROLLBACK ") Rollback (word_prefix 82 (codes "OLLBACK") Rollback (λ operand rest. refl) refl refl)

pub recover_atom : Atom as_link (codes "XA RECOVER") (tokens.Fixed Xa ∷ tokens.Fixed Recover ∷ [])
recover_atom =
    prefix_atom as_link (codes "XA ") (codes "RECOVER") (tokens.Fixed Xa ∷ []) (tokens.Fixed Recover ∷ []) xa_prefix
    (record {
      reads = λ rest more stops again.
          has_token as_link (apart_from true) 82 (codes "ECOVER" ++ rest) (tokens.Bare (codes "RECOVER")) (tokens.Fixed Recover) true rest more refl refl (ap seen (lexemes.bare_at (codes "RECOVER") rest refl refl refl stops)) refl refl (omega arith)
          (again (behind_token 82 true));
      utf8 = lexemes.plain_utf8 (codes "RECOVER") refl;
    })

-- ---- writes

pub replace_into : Prefix as_link (codes "REPLACE INTO ") (tokens.Fixed Replace ∷ tokens.Fixed Into ∷ [])
replace_into =
    prefix_prefix as_link (codes "REPLACE ") (codes "INTO ") (tokens.Fixed Replace ∷ []) (tokens.Fixed Into ∷ [])
    (word_prefix {operand = false} 82 (codes "EPLACE") Replace (λ operand rest. refl) refl refl)
    (lexemes.into_prefix as_link link_fixes true)
