-- What is written of a reply is that reply.
use Rattle.std.proofs.Common.{◌≡◌, ℕ, ◌^◌, ◌<◌, List, [], ◌∷◌, ◌++◌, length, map, Option, Some, None, refl, sym, ap, subst, ◌∙◌, append_assoc, inl, arith}
use Rattle.std.specs.Prelude.{codes}
use Rattle.std.specs.List.{AllByRecursion}
use Rattle.std.proofs.lemmas.List.{append-nil}
use Rattle.byteorder.specs.Endian.{little_bytes, little_number}
use Rattle.byteorder.specs.Numbers.{little_number-reads_back, length-bytes_low_first}
use Rattle.my_wire.specs.Grammar.{Then, IsExactly, IsEnd}
use Rattle.my_wire.specs.Lenenc.{lenenc}
use Rattle.my_wire.proofs.Lenencs.{lenenc_form}
use Rattle.my_messages.specs.Fields.{IsInt, IsText, text_bytes}
use Rattle.my_messages.specs.Reply.{IsOkPacket, IsEofPacket, IsDefinition, IsRow, IsRowOf, Each, IsReply, ok_bytes, err_bytes, eof_bytes, switch_bytes, traits_bytes, definition_bytes, row_bytes, payloads_of, RowFits, HasBytes, IsTextValue, IsColumnValue, IsCellValue, IsReplyValue}
use Rattle.my_messages.specs.declared.reply.Column.{Column}
use Rattle.my_messages.specs.declared.reply.Reply.{Reply}
use Rattle.my_messages.specs.declared.reply.Reply.TheVariants as replies
use Rattle.my_messages.proofs.Payloads.{def_is_text}

written_int : (w n : ℕ) → n < 256 ^ w → IsInt w n (little_bytes w n)
written_int w n lt = (length-bytes_low_first 0 w n, sym (ap (little_number w) (sym (append-nil (little_bytes w n))) ∙ little_number-reads_back w n [] lt))

written_text : (t : List ℕ) → IsTextValue t → IsText t (text_bytes t)
written_text t h = record { front = lenenc (length t); rest = t; whole = refl; first = lenenc_form (length t) h.1; second = (refl, h.0) }

at_end : (P : List ℕ → Type 0) (bytes : List ℕ) → P bytes → Then P IsEnd bytes
at_end P bytes h = record { front = bytes; rest = []; whole = sym (append-nil bytes); first = h; second = refl }

next : (P Q : List ℕ → Type 0) (a b : List ℕ) → P a → Q b → Then P Q (a ++ b)
next P Q a b h k = record { front = a; rest = b; whole = refl; first = h; second = k }

pub written_ok : (a s w : ℕ) → a < 2 ^ 64 → s < 2 ^ 16 → w < 2 ^ 16 → IsOkPacket a s w (ok_bytes a s w)
written_ok a s w p q r =
    next _ _ (0 ∷ []) (lenenc a ++ ((0 ∷ []) ++ (little_bytes 2 s ++ little_bytes 2 w))) refl (
    next _ _ (lenenc a) ((0 ∷ []) ++ (little_bytes 2 s ++ little_bytes 2 w)) (lenenc_form a p) (
    next _ _ (0 ∷ []) (little_bytes 2 s ++ little_bytes 2 w) (inl (omega arith, refl, refl)) (
    next _ _ (little_bytes 2 s) (little_bytes 2 w) (written_int 2 s (omega arith)) (at_end _ (little_bytes 2 w) (written_int 2 w (omega arith))))))

pub written_eof : (s : ℕ) → s < 2 ^ 16 → IsEofPacket s (eof_bytes s)
written_eof s q =
    next _ _ (0xFE ∷ []) ((0 ∷ 0 ∷ []) ++ little_bytes 2 s) refl (next _ _ (0 ∷ 0 ∷ []) (little_bytes 2 s) refl (at_end _ (little_bytes 2 s) (written_int 2 s (omega arith))))

six : (a b c d e f r : List ℕ) → (a ++ (b ++ (c ++ (d ++ (e ++ f))))) ++ r ≡ a ++ (b ++ (c ++ (d ++ (e ++ (f ++ r)))))
six a b c d e f r = simp append_assoc

written_traits : (c : Column) → IsColumnValue c → Then (IsExactly (0x0C ∷ [])) (Then (IsInt 2 c.charset) (Then (IsInt 4 c.length) (Then (IsInt 1 c.kind) (Then (IsInt 2 c.flags) (Then (IsExactly (0 ∷ 0 ∷ 0 ∷ [])) IsEnd))))) (traits_bytes c)
written_traits c h =
    let charset = h.charset in
    let width = h.width in
    let flags = h.flags in
    next _ _ (0x0C ∷ []) (little_bytes 2 c.charset ++ (little_bytes 4 c.length ++ ((c.kind ∷ []) ++ (little_bytes 2 c.flags ++ (0 ∷ 0 ∷ 0 ∷ []))))) refl (
    next _ _ (little_bytes 2 c.charset) (little_bytes 4 c.length ++ ((c.kind ∷ []) ++ (little_bytes 2 c.flags ++ (0 ∷ 0 ∷ 0 ∷ [])))) (written_int 2 c.charset (omega arith)) (
    next _ _ (little_bytes 4 c.length) ((c.kind ∷ []) ++ (little_bytes 2 c.flags ++ (0 ∷ 0 ∷ 0 ∷ []))) (written_int 4 c.length (omega arith)) (
    next _ _ (c.kind ∷ []) (little_bytes 2 c.flags ++ (0 ∷ 0 ∷ 0 ∷ [])) (refl, omega arith) (
    next _ _ (little_bytes 2 c.flags) (0 ∷ 0 ∷ 0 ∷ []) (written_int 2 c.flags (omega arith)) (at_end _ (0 ∷ 0 ∷ 0 ∷ []) refl)))))

pub written_definition : (c : Column) → IsColumnValue c → IsDefinition c (definition_bytes c)
written_definition c h =
    let r = traits_bytes c in
    let a = text_bytes (codes "def") in
    let s = text_bytes c.schema in
    let t = text_bytes c.table in
    let o = text_bytes c.org_table in
    let n = text_bytes c.name in
    let m = text_bytes c.org_name in
    subst (IsDefinition c) (sym (six a s t o n m r)) (
    next _ _ a (s ++ (t ++ (o ++ (n ++ (m ++ r))))) (written_text (codes "def") (def_is_text, omega arith)) (
    next _ _ s (t ++ (o ++ (n ++ (m ++ r)))) (written_text c.schema h.schema) (
    next _ _ t (o ++ (n ++ (m ++ r))) (written_text c.table h.table) (
    next _ _ o (n ++ (m ++ r)) (written_text c.org_table h.org_table) (
    next _ _ n (m ++ r) (written_text c.name h.name) (next _ _ m r (written_text c.org_name h.org_name) (written_traits c h)))))))

written_row : (cells : List (Option (List ℕ))) → AllByRecursion IsCellValue cells → IsRow cells (row_bytes cells)
written_row [] h = refl
written_row (None ∷ cells) h = next _ _ (0xFB ∷ []) (row_bytes cells) refl (written_row cells h.1)
written_row (Some t ∷ cells) h = next _ _ (text_bytes t) (row_bytes cells) (written_text t h.0) (written_row cells h.1)

written_definitions : (cs : List Column) → AllByRecursion IsColumnValue cs → Each IsDefinition cs (map definition_bytes cs)
written_definitions [] h = tt
written_definitions (c ∷ cs) h = (written_definition c h.0, written_definitions cs h.1)

written_rows : (width : ℕ) (rows : List (List (Option (List ℕ)))) → AllByRecursion (RowFits width) rows → AllByRecursion (AllByRecursion IsCellValue) rows → Each (IsRowOf width) rows (map row_bytes rows)
written_rows width [] fits h = tt
written_rows width (row ∷ rows) fits h = ((fits.0.0, written_row row h.0), written_rows width rows fits.1 h.1)

pub written : (r : Reply) → HasBytes r → IsReplyValue r → IsReply r (payloads_of r)
written (replies.Ok a s w) fits h = (ok_bytes a s w, refl, written_ok a s w h.0 h.1 h.2)
written (replies.Err n s m) fits h = (
  err_bytes n s m,
  refl,
  next _ _ (0xFF ∷ []) (little_bytes 2 n ++ (codes "#" ++ (s ++ m))) refl (
      next _ _ (little_bytes 2 n) (codes "#" ++ (s ++ m)) (written_int 2 n (let k = h.0 in omega arith)) (next _ _ (codes "#") (s ++ m) refl (next _ _ s m (refl, h.1) (refl, h.2)))),
)
written (replies.Rows columns rows status) fits h = record {
  count = lenenc (length columns);
  definitions = map definition_bytes columns;
  first_end = eof_bytes status;
  row_payloads = map row_bytes rows;
  last_end = eof_bytes status;
  first_status = status;
  whole = refl;
  counted = (lenenc_form (length columns) h.0, fits.0);
  defined = written_definitions columns h.1;
  definitions_end = written_eof status h.3;
  rows_are = written_rows (length columns) rows fits.2 h.2;
  rows_end = written_eof status h.3;
}
written (replies.Switch plugin nonce) fits h = (
  switch_bytes plugin nonce,
  refl,
  next _ _ (0xFE ∷ []) ((plugin ++ 0 ∷ []) ++ (nonce ++ 0 ∷ [])) refl (
      next _ _ (plugin ++ 0 ∷ []) (nonce ++ 0 ∷ []) (record { whole = refl; no_nul = fits.0; utf8 = h.0 }) (next _ _ nonce (0 ∷ []) (refl, h.1) (at_end _ (0 ∷ []) refl))),
)
