-- What is printed of a statement has tokens that spell it.
use Rattle.std.proofs.Common.{◌≡◌, ℕ, zero, suc, map, List, [], ◌∷◌, ◌++◌, true, false, Some, None, refl, sym, ap, subst, ◌∙◌, append_assoc, inl, inr, codes}
use Rattle.std.specs.List.{flat_map}
use Rattle.sql_values.specs.declared.places.LockMode.TheVariants as locks
use Rattle.sql_text.specs.declared.statement.Statement.{Statement}
use Rattle.sql_text.specs.declared.statement.Statement.TheVariants as statements
use Rattle.sql_text.specs.declared.statement.TableStatement.TheVariants as table_statements
use Rattle.sql_text.specs.declared.statement.Admin.{Admin}
use Rattle.sql_text.specs.declared.statement.Admin.TheVariants as admins
use Rattle.sql_text.specs.declared.statement.SelectItems.TheVariants as items
use Rattle.sql_text.specs.declared.statement.Item.{Item}
use Rattle.sql_text.specs.declared.statement.Tab.{Tab}
use Rattle.sql_text.specs.declared.statement.Assignment.{Assignment}
use Rattle.sql_text.specs.declared.token.Fixed.TheVariants.{Database, Databases, Delete, For, From, In, Insert, Into, Lock, Mode, Select, Set, Share, Show, Tables, Update, Values, VersionComment, Where, Open, Close, Comma, Star, Semicolon, Equal}
use Rattle.sql_text.specs.declared.token.Token.{Token}
use Rattle.sql_text.specs.declared.token.Token.TheVariants as tokens
use Rattle.sql_text.specs.Rules.{is, ◌▷◌, series, at_most_further, parenthesized, optional}
use Rattle.sql_text.specs.Grammar.{name, literal, alias, comment_limit, of_server, shown, show, cond as cond_rule, expr, tuple, column_list, insert, item, aggregate_item, select_items, where_cond, lock, locked, select, assignment, update, delete, body, statement}
use Rattle.sql_text.specs.Printing.{literal_text, name_text, joined_text, column_text, literals_text, cond_text, alias_text, item_text, aggregate_item_text, items_text, where_text, columns_text, tuple_text, expr_text, order_text, limit_text, lock_text, locked_text, assignment_text, printed}
use Rattle.sql_text.proofs.Written.{Atom, Suffix, prefix_of, nothing_behind, atom_suffix, prefix_atom, separator_atom, suffix_suffix, separator_alone}
use Rattle.sql_text.proofs.Lexemes as lexemes
use Rattle.sql_text.proofs.Sound.{Sounds}
use Rattle.sql_text.proofs.Told.{Told, Respells, first_sound, second_sound, mapped, unmapped, retold}
use Rattle.sql_text.proofs.Respelled.{alias_told, column_told, enclosed_told, few_told, literal_told, name_told, series_told, table_told}
use Rattle.sql_text.proofs.RespelledConds.{cond_told}
use Rattle.sql_text.proofs.RespelledExprs.{expr_told}
use Rattle.sql_text.proofs.RespelledAggregates.{aggregate_item_told}
use Rattle.sql_text.proofs.RespelledOrders.{order_told, limit_told}

module _ (change : Token → Token) (fixes : lexemes.Fixes change) where
  -- ---- statements

  tuple_told : (depth : ℕ) → Respells (Atom change) (tuple depth) tuple_text
  tuple_told depth l ts h sound =
      let e = (enclosed_told change fixes) (series Comma literal) literals_text ((series_told change fixes) Comma literal literal_text (codes ",") (lexemes.comma_symbol change fixes) (literal_told change fixes)) depth l ts h sound in
      let list : List Token = e.0 ++ (tokens.Fixed Close ∷ []) in (
        tokens.Fixed Open ∷ list,
        e.1,
        (prefix_atom change) (codes "(") (literals_text l ++ codes ")") (tokens.Fixed Open ∷ []) list ((prefix_of change) (codes "(") (tokens.Fixed Open ∷ []) (lexemes.open_symbol change fixes)) e.2,
      )

  columns_told : (depth : ℕ) → Respells (Suffix change) (column_list depth) columns_text
  columns_told depth c ts (inl h) sound =
      let u = unmapped (parenthesized (series Comma name) depth) Some c ts h in
      let e = (enclosed_told change fixes) (series Comma name) (λ l. joined_text (codes ", ") (map name_text l)) ((series_told change fixes) Comma name name_text (codes ", ") (lexemes.spaced_comma change fixes) (name_told change fixes)) depth u.0 ts u.2 sound in
      let list : List Token = e.0 ++ (tokens.Fixed Close ∷ []) in
      retold (Suffix change) (column_list depth) columns_text c (Some u.0) u.1 (
        tokens.Fixed Open ∷ list,
        inl (mapped (parenthesized (series Comma name) depth) (λ l. is (Some l)) u.0 (Some u.0) (tokens.Fixed Open ∷ list) e.1 (refl, refl)),
        (separator_atom change) (codes " (") (joined_text (codes ", ") (map name_text u.0) ++ codes ")") (tokens.Fixed Open ∷ []) list (lexemes.spaced_open change fixes) e.2,
      )
  columns_told depth c ts (inr h) sound = retold (Suffix change) (column_list depth) columns_text c None h.0 ([], inr (refl, refl), (nothing_behind change))

  pub insert_told : (depth : ℕ) → Respells (Atom change) (insert depth) printed
  unfolding printed
  insert_told depth x ts (rest, e, (into, s)) sound =
      let inside : Sounds rest = (let k : Sounds (tokens.Fixed Insert ∷ rest) = subst Sounds e sound in k.1) in
      let t = s.second in
      let after_into : Sounds s.rest = second_sound s inside in
      let c = t.1.second in
      let after_table : Sounds t.1.rest = second_sound t.1 after_into in
      let v = c.1.second in
      let after_columns : Sounds v.0 = (let k : Sounds (tokens.Fixed Values ∷ v.0) = subst Sounds v.1 (second_sound c.1 after_table) in k.1) in
      let u = unmapped (series Comma (tuple depth)) (λ r. statements.Table (table_statements.Insert (record { table = t.0; columns = c.0; rows = r }))) x v.0 v.2 in
      let a = (table_told change fixes) t.0 t.1.front t.1.first (first_sound t.1 after_into) in
      let b = columns_told depth c.0 c.1.front c.1.first (first_sound c.1 after_table) in
      let r = (series_told change fixes) Comma (tuple depth) tuple_text (codes ",") (lexemes.comma_symbol change fixes) (tuple_told depth) u.0 v.0 u.2 after_columns in
      let value : Statement = statements.Table (table_statements.Insert (record { table = t.0; columns = c.0; rows = u.0 })) in
      let behind : List ℕ = codes " VALUES " ++ joined_text (codes ",") (map tuple_text u.0) in
      retold (Atom change) (insert depth) printed x value u.1 (
        tokens.Fixed Insert ∷ (tokens.Fixed Into ∷ (a.0 ++ (b.0 ++ (tokens.Fixed Values ∷ r.0)))),
        (
          tokens.Fixed Into ∷ (a.0 ++ (b.0 ++ (tokens.Fixed Values ∷ r.0))),
          refl,
          (
            true,
            record {
              front = tokens.Fixed Into ∷ [];
              rest = a.0 ++ (b.0 ++ (tokens.Fixed Values ∷ r.0));
              whole = refl;
              first = inl ([], refl, (refl, refl));
              second = (
                t.0,
                record {
                  front = a.0;
                  rest = b.0 ++ (tokens.Fixed Values ∷ r.0);
                  whole = refl;
                  first = a.1;
                  second = (
                    c.0,
                    record {
                      front = b.0;
                      rest = tokens.Fixed Values ∷ r.0;
                      whole = refl;
                      first = b.1;
                      second = (r.0, refl, mapped (series Comma (tuple depth)) (λ l. is (statements.Table (table_statements.Insert (record { table = t.0; columns = c.0; rows = l })))) u.0 value r.0 r.1 (refl, refl));
                    },
                  );
                },
              );
            },
          ),
        ),
        (prefix_atom change) (codes "INSERT INTO ") (name_text t.0 ++ (columns_text c.0 ++ behind)) (tokens.Fixed Insert ∷ tokens.Fixed Into ∷ []) (a.0 ++ (b.0 ++ (tokens.Fixed Values ∷ r.0))) (lexemes.insert_prefix change fixes)
            ((atom_suffix change) (name_text t.0) (columns_text c.0 ++ behind) a.0 (b.0 ++ (tokens.Fixed Values ∷ r.0)) a.2
            ((suffix_suffix change) (columns_text c.0) behind b.0 (tokens.Fixed Values ∷ r.0) b.2
            ((separator_atom change) (codes " VALUES ") (joined_text (codes ",") (map tuple_text u.0)) (tokens.Fixed Values ∷ []) r.0 (lexemes.values_text change fixes) r.2))),
      )

  item_told : Respells (Atom change) item item_text
  item_told i ts (c, s) sound =
      let u = unmapped alias (λ a. record { column = c; alias = a }) i s.rest s.second in
      let a = (column_told change fixes) c s.front s.first (first_sound s sound) in
      let b = (alias_told change fixes) u.0 s.rest u.2 (second_sound s sound) in
      let value : Item = record { column = c; alias = u.0 } in
      retold (Atom change) item item_text i value u.1 (
        a.0 ++ b.0,
        (c, record { front = a.0; rest = b.0; whole = refl; first = a.1; second = mapped alias (λ k. is (record { column = c; alias = k })) u.0 value b.0 b.1 (refl, refl) }),
        (atom_suffix change) (column_text c) (alias_text u.0) a.0 b.0 a.2 b.2,
      )

  star_atom : (Atom change) (codes "*") (tokens.Fixed Star ∷ [])
  star_atom = (separator_alone change) (codes "*") (tokens.Fixed Star ∷ []) (lexemes.star_symbol change fixes)

  items_told : (depth : ℕ) → Respells (Atom change) (select_items depth) items_text
  items_told depth i ts (inl (rest, e, h)) sound =
      retold (Atom change) (select_items depth) items_text i items.All h.0
      (tokens.Fixed Star ∷ [], inl ([], refl, (refl, refl)), star_atom)
  items_told depth i ts (inr (inl (x, s))) sound =
      let u = unmapped (at_most_further 899 Comma item) (λ l. items.Columns (x ∷ l)) i s.rest s.second in
      let a = item_told x s.front s.first (first_sound s sound) in
      let b = (few_told change fixes) 899 Comma item item_text (codes ", ") (lexemes.spaced_comma change fixes) item_told u.0 s.rest u.2 (second_sound s sound) in
      retold (Atom change) (select_items depth) items_text i (items.Columns (x ∷ u.0)) u.1 (
        a.0 ++ b.0,
        inr (inl (x, record { front = a.0; rest = b.0; whole = refl; first = a.1; second = mapped (at_most_further 899 Comma item) (λ l. is (items.Columns (x ∷ l))) u.0 (items.Columns (x ∷ u.0)) b.0 b.1 (refl, refl) })),
        (atom_suffix change) (item_text x) (flat_map (λ y. codes ", " ++ y) (map item_text u.0)) a.0 b.0 a.2 b.2,
      )
  items_told depth i ts (inr (inr (x, s))) sound =
      let u = unmapped (at_most_further 899 Comma (aggregate_item depth)) (λ l. items.Aggregates (x ∷ l)) i s.rest s.second in
      let a = (aggregate_item_told change fixes) depth x s.front s.first (first_sound s sound) in
      let b = (few_told change fixes) 899 Comma (aggregate_item depth) aggregate_item_text (codes ", ") (lexemes.spaced_comma change fixes) ((aggregate_item_told change fixes) depth) u.0 s.rest u.2 (second_sound s sound) in
      retold (Atom change) (select_items depth) items_text i (items.Aggregates (x ∷ u.0)) u.1 (
        a.0 ++ b.0,
        inr (inr (x, record { front = a.0; rest = b.0; whole = refl; first = a.1; second = mapped (at_most_further 899 Comma (aggregate_item depth)) (λ l. is (items.Aggregates (x ∷ l))) u.0 (items.Aggregates (x ∷ u.0)) b.0 b.1 (refl, refl) })),
        (atom_suffix change) (aggregate_item_text x) (flat_map (λ y. codes ", " ++ y) (map aggregate_item_text u.0)) a.0 b.0 a.2 b.2,
      )

  pub where_told : (depth : ℕ) → Respells (Suffix change) (where_cond depth) where_text
  where_told depth c ts (inl (rest, e, h)) sound =
      let inner : Sounds rest = (let k : Sounds (tokens.Fixed Where ∷ rest) = subst Sounds e sound in k.1) in
      let u = unmapped (cond_rule depth) Some c rest h in
      let a = (cond_told change fixes) depth u.0 rest u.2 inner in
      retold (Suffix change) (where_cond depth) where_text c (Some u.0) u.1 (
        tokens.Fixed Where ∷ a.0,
        inl (a.0, refl, mapped (cond_rule depth) (λ k. is (Some k)) u.0 (Some u.0) a.0 a.1 (refl, refl)),
        (separator_atom change) (codes " WHERE ") (cond_text u.0) (tokens.Fixed Where ∷ []) a.0 (lexemes.where_text change fixes) a.2,
      )
  where_told depth c ts (inr h) sound = retold (Suffix change) (where_cond depth) where_text c None h.0 ([], inr (refl, refl), (nothing_behind change))

  pub lock_told : Respells (Suffix change) lock lock_text
  lock_told m ts (inl h) sound =
      retold (Suffix change) lock lock_text m locks.Shared h.2.2.2.2.0
      (tokens.Fixed Lock ∷ tokens.Fixed In ∷ tokens.Fixed Share ∷ tokens.Fixed Mode ∷ [], inl (tokens.Fixed In ∷ tokens.Fixed Share ∷ tokens.Fixed Mode ∷ [], refl, (tokens.Fixed Share ∷ tokens.Fixed Mode ∷ [], refl, (tokens.Fixed Mode ∷ [], refl, ([], refl, (refl, refl))))), lexemes.share_mode change fixes)
  lock_told m ts (inr h) sound =
      retold (Suffix change) lock lock_text m locks.Exclusive h.2.2.0
      (tokens.Fixed For ∷ tokens.Fixed Update ∷ [], inr (tokens.Fixed Update ∷ [], refl, ([], refl, (refl, refl))), lexemes.for_update change fixes)

  locked_told : Respells (Suffix change) locked locked_text
  locked_told m ts (inl h) sound =
      let u = unmapped lock Some m ts h in
      let a = lock_told u.0 ts u.2 sound in
      retold (Suffix change) locked locked_text m (Some u.0) u.1 (a.0, inl (mapped lock (λ k. is (Some k)) u.0 (Some u.0) a.0 a.1 (refl, refl)), a.2)
  locked_told m ts (inr h) sound = retold (Suffix change) locked locked_text m None h.0 ([], inr (refl, refl), (nothing_behind change))

  -- ---- SELECT

  version_told : (depth : ℕ) → Told (Atom change) (select depth) (statements.Admin admins.VersionComment) (printed (statements.Admin admins.VersionComment))
  unfolding printed
  version_told depth = (
    tokens.Fixed Select ∷ tokens.Fixed VersionComment ∷ [],
    (
      tokens.Fixed VersionComment ∷ [],
      refl,
      inl (mapped (of_server depth) (λ a. is (statements.Admin a)) admins.VersionComment (statements.Admin admins.VersionComment) (tokens.Fixed VersionComment ∷ []) (inl ([], refl, inr (refl, refl))) (refl, refl)),
    ),
    lexemes.version_comment change fixes,
  )

  -- its parentheses are an opening
  database_told : (depth : ℕ) → Told (Atom change) (select (suc depth)) (statements.Admin admins.Database) (printed (statements.Admin admins.Database))
  unfolding printed
  database_told depth =
      let call : List Token = tokens.Fixed Database ∷ tokens.Fixed Open ∷ tokens.Fixed Close ∷ [] in
      let enclosed : parenthesized (is admins.Database) (suc depth) admins.Database (tokens.Fixed Open ∷ tokens.Fixed Close ∷ []) =
      (tokens.Fixed Close ∷ [], refl, (admins.Database, record { front = []; rest = tokens.Fixed Close ∷ []; whole = refl; first = (refl, refl); second = ([], refl, (refl, refl)) })) in (
        tokens.Fixed Select ∷ call,
        (
          call,
          refl,
          inl (mapped (of_server (suc depth)) (λ a. is (statements.Admin a)) admins.Database (statements.Admin admins.Database) call (inr (tokens.Fixed Open ∷ tokens.Fixed Close ∷ [], refl, enclosed)) (refl, refl)),
        ),
        lexemes.database_call change fixes,
      )

  comment_is : (a : Admin) (ts : List Token) → comment_limit a ts → a ≡ admins.VersionComment
  comment_is a ts (inl (rest, e, (n, s))) = s.second.0
  comment_is a ts (inr h) = h.0

  admin_told : (depth : ℕ) (x : Statement) (a : Admin) (ts : List Token) → x ≡ statements.Admin a → of_server depth a ts → Told (Atom change) (select depth) x (printed x)
  admin_told depth x a ts e (inl (rest, f, h)) =
      retold (Atom change) (select depth) printed x (statements.Admin admins.VersionComment) (e ∙ ap statements.Admin (comment_is a rest h)) (version_told depth)
  admin_told zero x a ts e (inr (rest, f, h)) = absurd h
  admin_told (suc depth) x a ts e (inr (rest, f, (more, g, (y, s)))) =
      let named : a ≡ admins.Database = s.second.2.0 ∙ s.first.0 in
      retold (Atom change) (select (suc depth)) printed x (statements.Admin admins.Database) (e ∙ ap statements.Admin named) (database_told depth)

  pub select_told : (depth : ℕ) → Respells (Atom change) (select depth) printed
  unfolding printed
  select_told depth x ts (rest, e, inl h) sound =
      let u = unmapped (of_server depth) statements.Admin x rest h in
      admin_told depth x u.0 rest u.1 u.2
  select_told depth x ts (rest, e, inr (i, s)) sound =
      let inside : Sounds rest = (let k : Sounds (tokens.Fixed Select ∷ rest) = subst Sounds e sound in k.1) in
      let f = s.second in
      let after_from : Sounds f.0 = (let k : Sounds (tokens.Fixed From ∷ f.0) = subst Sounds f.1 (second_sound s inside) in k.1) in
      let t = f.2 in
      let w = t.1.second in
      let after_tab : Sounds t.1.rest = second_sound t.1 after_from in
      let o = w.1.second in
      let after_where : Sounds w.1.rest = second_sound w.1 after_tab in
      let l = o.1.second in
      let after_order : Sounds o.1.rest = second_sound o.1 after_where in
      let u = unmapped locked (λ m. statements.Table (table_statements.Select (record { items = i; tab = t.0; cond = w.0; order = o.0; limit = l.0; lock = m }))) x l.1.rest l.1.second in
      let n = t.1.first in
      let k = unmapped alias (λ a. record { table = n.0; alias = a }) t.0 n.1.rest n.1.second in
      let in_tab : Sounds t.1.front = first_sound t.1 after_from in
      let a = items_told depth i s.front s.first (first_sound s inside) in
      let b = (table_told change fixes) n.0 n.1.front n.1.first (first_sound n.1 in_tab) in
      let c = (alias_told change fixes) k.0 n.1.rest k.2 (second_sound n.1 in_tab) in
      let d = where_told depth w.0 w.1.front w.1.first (first_sound w.1 after_tab) in
      let p = (order_told change fixes) i o.0 o.1.front o.1.first (first_sound o.1 after_where) in
      let q = (limit_told change fixes) i l.0 l.1.front l.1.first (first_sound l.1 after_order) in
      let m = locked_told u.0 l.1.rest u.2 (second_sound l.1 after_order) in
      let from : Tab = record { table = n.0; alias = k.0 } in
      let value : Statement = statements.Table (table_statements.Select (record { items = i; tab = from; cond = w.0; order = o.0; limit = l.0; lock = u.0 })) in
      let same : x ≡ value = u.1 ∙ ap (λ (v : Tab). statements.Table (table_statements.Select (record { items = i; tab = v; cond = w.0; order = o.0; limit = l.0; lock = u.0 }))) k.1 in
      let source : List Token = b.0 ++ c.0 in
      let last : List Token = p.0 ++ (q.0 ++ m.0) in
      let end : List Token = d.0 ++ last in
      let last_text : List ℕ = order_text o.0 ++ (limit_text l.0 ++ locked_text u.0) in
      let behind : List ℕ = alias_text k.0 ++ (where_text w.0 ++ last_text) in
      retold (Atom change) (select depth) printed x value same (
        tokens.Fixed Select ∷ (a.0 ++ (tokens.Fixed From ∷ (source ++ end))),
        (
          a.0 ++ (tokens.Fixed From ∷ (source ++ end)),
          refl,
          inr (
            i,
            record {
              front = a.0;
              rest = tokens.Fixed From ∷ (source ++ end);
              whole = refl;
              first = a.1;
              second = (
                source ++ end,
                refl,
                (
                  from,
                  record {
                    front = source;
                    rest = end;
                    whole = refl;
                    first = (n.0, record { front = b.0; rest = c.0; whole = refl; first = b.1; second = mapped alias (λ v. is (record { table = n.0; alias = v })) k.0 from c.0 c.1 (refl, refl) });
                    second = (
                      w.0,
                      record {
                        front = d.0;
                        rest = last;
                        whole = refl;
                        first = d.1;
                        second = (
                          o.0,
                          record {
                            front = p.0;
                            rest = q.0 ++ m.0;
                            whole = refl;
                            first = p.1;
                            second = (
                              l.0,
                              record {
                                front = q.0;
                                rest = m.0;
                                whole = refl;
                                first = q.1;
                                second = mapped locked (λ v. is (statements.Table (table_statements.Select (record { items = i; tab = from; cond = w.0; order = o.0; limit = l.0; lock = v })))) u.0 value m.0 m.1 (refl, refl);
                              },
                            );
                          },
                        );
                      },
                    );
                  },
                ),
              );
            },
          ),
        ),
        subst (λ (v : List Token). (Atom change) (codes "SELECT " ++ (items_text i ++ (codes " FROM " ++ (name_text n.0 ++ behind)))) (tokens.Fixed Select ∷ (a.0 ++ (tokens.Fixed From ∷ v)))) (sym (append_assoc b.0 c.0 end))
            ((prefix_atom change) (codes "SELECT ") (items_text i ++ (codes " FROM " ++ (name_text n.0 ++ behind))) (tokens.Fixed Select ∷ []) (a.0 ++ (tokens.Fixed From ∷ (b.0 ++ (c.0 ++ end)))) (lexemes.select_prefix change fixes)
            ((atom_suffix change) (items_text i) (codes " FROM " ++ (name_text n.0 ++ behind)) a.0 (tokens.Fixed From ∷ (b.0 ++ (c.0 ++ end))) a.2
            ((separator_atom change) (codes " FROM ") (name_text n.0 ++ behind) (tokens.Fixed From ∷ []) (b.0 ++ (c.0 ++ end)) (lexemes.from_text change fixes)
            ((atom_suffix change) (name_text n.0) behind b.0 (c.0 ++ end) b.2
            ((suffix_suffix change) (alias_text k.0) (where_text w.0 ++ last_text) c.0 end c.2
            ((suffix_suffix change) (where_text w.0) last_text d.0 last d.2
            ((suffix_suffix change) (order_text o.0) (limit_text l.0 ++ locked_text u.0) p.0 (q.0 ++ m.0) p.2
            ((suffix_suffix change) (limit_text l.0) (locked_text u.0) q.0 m.0 q.2 m.2)))))))),
      )

  pub show_told : Respells (Atom change) show printed
  unfolding printed
  show_told x ts (rest, e, h) sound =
      let u = unmapped shown statements.Admin x rest h in
      elim u.2 [
        | inl k ↦ retold (Atom change) show printed x (statements.Admin admins.ShowTables) (u.1 ∙ ap statements.Admin k.2.0) (
          tokens.Fixed Show ∷ tokens.Fixed Tables ∷ [],
          (tokens.Fixed Tables ∷ [], refl, mapped shown (λ a. is (statements.Admin a)) admins.ShowTables (statements.Admin admins.ShowTables) (tokens.Fixed Tables ∷ []) (inl ([], refl, (refl, refl))) (refl, refl)),
          lexemes.show_tables change fixes,
        )
        | inr k ↦ retold (Atom change) show printed x (statements.Admin admins.ShowDatabases) (u.1 ∙ ap statements.Admin k.2.0) (
          tokens.Fixed Show ∷ tokens.Fixed Databases ∷ [],
          (tokens.Fixed Databases ∷ [], refl, mapped shown (λ a. is (statements.Admin a)) admins.ShowDatabases (statements.Admin admins.ShowDatabases) (tokens.Fixed Databases ∷ []) (inr ([], refl, (refl, refl))) (refl, refl)),
          lexemes.show_databases change fixes,
        )
      ]

  assignment_told : (depth : ℕ) → Respells (Atom change) (assignment depth) assignment_text
  assignment_told depth x ts (n, s) sound =
      let f = s.second in
      let inner : Sounds f.0 = (let k : Sounds (tokens.Fixed Equal ∷ f.0) = subst Sounds f.1 (second_sound s sound) in k.1) in
      let u = unmapped (expr depth) (λ e. record { column = n; value = e }) x f.0 f.2 in
      let a = (name_told change fixes) n s.front s.first (first_sound s sound) in
      let b = (expr_told change fixes) depth u.0 f.0 u.2 inner in
      let value : Assignment = record { column = n; value = u.0 } in
      retold (Atom change) (assignment depth) assignment_text x value u.1 (
        a.0 ++ (tokens.Fixed Equal ∷ b.0),
        (n, record { front = a.0; rest = tokens.Fixed Equal ∷ b.0; whole = refl; first = a.1; second = (b.0, refl, mapped (expr depth) (λ e. is (record { column = n; value = e })) u.0 value b.0 b.1 (refl, refl)) }),
        (atom_suffix change) (name_text n) (codes " = " ++ expr_text u.0) a.0 (tokens.Fixed Equal ∷ b.0) a.2
            ((separator_atom change) (codes " = ") (expr_text u.0) (tokens.Fixed Equal ∷ []) b.0 (lexemes.equal_text change fixes) b.2),
      )

  pub update_told : (depth : ℕ) → Respells (Atom change) (update depth) printed
  unfolding printed
  update_told depth x ts (rest, e, (t, s)) sound =
      let inside : Sounds rest = (let k : Sounds (tokens.Fixed Update ∷ rest) = subst Sounds e sound in k.1) in
      let f = s.second in
      let after_set : Sounds f.0 = (let k : Sounds (tokens.Fixed Set ∷ f.0) = subst Sounds f.1 (second_sound s inside) in k.1) in
      let l = f.2 in
      let u = unmapped (where_cond depth) (λ c. statements.Table (table_statements.Update (record { table = t; sets = l.0; cond = c }))) x l.1.rest l.1.second in
      let a = (table_told change fixes) t s.front s.first (first_sound s inside) in
      let b = (series_told change fixes) Comma (assignment depth) assignment_text (codes ", ") (lexemes.spaced_comma change fixes) (assignment_told depth) l.0 l.1.front l.1.first (first_sound l.1 after_set) in
      let c = where_told depth u.0 l.1.rest u.2 (second_sound l.1 after_set) in
      let value : Statement = statements.Table (table_statements.Update (record { table = t; sets = l.0; cond = u.0 })) in
      let sets : List ℕ = joined_text (codes ", ") (map assignment_text l.0) in
      retold (Atom change) (update depth) printed x value u.1 (
        tokens.Fixed Update ∷ (a.0 ++ (tokens.Fixed Set ∷ (b.0 ++ c.0))),
        (
          a.0 ++ (tokens.Fixed Set ∷ (b.0 ++ c.0)),
          refl,
          (
            t,
            record {
              front = a.0;
              rest = tokens.Fixed Set ∷ (b.0 ++ c.0);
              whole = refl;
              first = a.1;
              second = (
                b.0 ++ c.0,
                refl,
                (
                  l.0,
                  record {
                    front = b.0;
                    rest = c.0;
                    whole = refl;
                    first = b.1;
                    second = mapped (where_cond depth) (λ v. is (statements.Table (table_statements.Update (record { table = t; sets = l.0; cond = v })))) u.0 value c.0 c.1 (refl, refl);
                  },
                ),
              );
            },
          ),
        ),
        (prefix_atom change) (codes "UPDATE ") (name_text t ++ (codes " SET " ++ (sets ++ where_text u.0))) (tokens.Fixed Update ∷ []) (a.0 ++ (tokens.Fixed Set ∷ (b.0 ++ c.0))) (lexemes.update_prefix change fixes)
            ((atom_suffix change) (name_text t) (codes " SET " ++ (sets ++ where_text u.0)) a.0 (tokens.Fixed Set ∷ (b.0 ++ c.0)) a.2
            ((separator_atom change) (codes " SET ") (sets ++ where_text u.0) (tokens.Fixed Set ∷ []) (b.0 ++ c.0) (lexemes.set_text change fixes)
            ((atom_suffix change) sets (where_text u.0) b.0 c.0 b.2 c.2))),
      )

  pub delete_told : (depth : ℕ) → Respells (Atom change) (delete depth) printed
  unfolding printed
  delete_told depth x ts (rest, e, (more, f, (t, s))) sound =
      let outer : Sounds rest = (let k : Sounds (tokens.Fixed Delete ∷ rest) = subst Sounds e sound in k.1) in
      let inner : Sounds more = (let k : Sounds (tokens.Fixed From ∷ more) = subst Sounds f outer in k.1) in
      let u = unmapped (where_cond depth) (λ c. statements.Table (table_statements.Delete (record { table = t; cond = c }))) x s.rest s.second in
      let a = (table_told change fixes) t s.front s.first (first_sound s inner) in
      let b = where_told depth u.0 s.rest u.2 (second_sound s inner) in
      let value : Statement = statements.Table (table_statements.Delete (record { table = t; cond = u.0 })) in
      retold (Atom change) (delete depth) printed x value u.1 (
        tokens.Fixed Delete ∷ tokens.Fixed From ∷ (a.0 ++ b.0),
        (
          tokens.Fixed From ∷ (a.0 ++ b.0),
          refl,
          (
            a.0 ++ b.0,
            refl,
            (t, record { front = a.0; rest = b.0; whole = refl; first = a.1; second = mapped (where_cond depth) (λ v. is (statements.Table (table_statements.Delete (record { table = t; cond = v })))) u.0 value b.0 b.1 (refl, refl) }),
          ),
        ),
        (prefix_atom change) (codes "DELETE FROM ") (name_text t ++ where_text u.0) (tokens.Fixed Delete ∷ tokens.Fixed From ∷ []) (a.0 ++ b.0) (lexemes.delete_prefix change fixes)
            ((atom_suffix change) (name_text t) (where_text u.0) a.0 b.0 a.2 b.2),
      )

  body_told : (depth : ℕ) → Respells (Atom change) (body depth) printed
  body_told depth s ts (inl h) sound = let a = insert_told depth s ts h sound in (a.0, inl a.1, a.2)
  body_told depth s ts (inr (inl h)) sound = let a = select_told depth s ts h sound in (a.0, inr (inl a.1), a.2)
  body_told depth s ts (inr (inr (inl h))) sound = let a = show_told s ts h sound in (a.0, inr (inr (inl a.1)), a.2)
  body_told depth s ts (inr (inr (inr (inl h)))) sound = let a = update_told depth s ts h sound in (a.0, inr (inr (inr (inl a.1))), a.2)
  body_told depth s ts (inr (inr (inr (inr h)))) sound = let a = delete_told depth s ts h sound in (a.0, inr (inr (inr (inr a.1))), a.2)

  pub statement_told : (depth : ℕ) → Respells (Atom change) (statement depth) printed
  statement_told depth x ts (s, q) sound =
      let same : x ≡ s = q.second.1.second.0 in
      let a = body_told depth s q.front q.first (first_sound q sound) in
      retold (Atom change) (statement depth) printed x s same (
        a.0,
        mapped (body depth) (λ v. optional Semicolon ▷ λ _. is v) s s a.0 a.1 (false, record { front = []; rest = []; whole = refl; first = inr (refl, refl); second = (refl, refl) }),
        a.2,
      )
