-- The canonical text of a request.
use Rattle.std.specs.Prelude.{ℕ, pos, ◌++◌, List, [], map, Option, Some, None, codes}
use Rattle.std.specs.Fmt.{signed_decimal}
use Rattle.sql_values.specs.declared.value.Value.{Value}
use Rattle.sql_values.specs.declared.value.Value.TheVariants as values
use Rattle.sql_values.specs.declared.places.Xid.{Xid}
use Rattle.sql_text.specs.declared.link.LinkRequest.{LinkRequest}
use Rattle.sql_text.specs.declared.link.LinkRequest.TheVariants as requests
use Rattle.sql_text.specs.declared.link.ScanItems.{ScanItems}
use Rattle.sql_text.specs.declared.link.ScanItems.TheVariants as scanned
use Rattle.sql_text.specs.Printing.{quoted, name_text, joined_text, call_text, where_text, lock_text}

-- the name of a branch, with the format 1
abbrev pub xid_text : Xid → List ℕ
xid_text x = quoted x.gtrid ++ (codes "," ++ (quoted x.bqual ++ codes ",1"))

abbrev pub value_text : Value → List ℕ
value_text (values.Number n) = signed_decimal n
value_text (values.Text t) = quoted t

abbrev pub row_text : List Value → List ℕ
row_text r = codes "(" ++ (joined_text (codes ",") (map value_text r) ++ codes ")")

abbrev pub scan_items_text : ScanItems → List ℕ
scan_items_text scanned.All = codes "*"
scan_items_text (scanned.Aggregates l) = joined_text (codes ", ") (map call_text l)

abbrev pub order_text : Option (List ℕ) → List ℕ
order_text None = []
order_text (Some k) = codes " ORDER BY " ++ name_text k

abbrev pub limit_text : Option ℕ → List ℕ
limit_text None = []
limit_text (Some n) = codes " LIMIT " ++ signed_decimal (pos n)

-- the canonical text
unfoldable pub link_printed : LinkRequest → List ℕ
link_printed (requests.Start x) = codes "XA START " ++ xid_text x
link_printed (requests.End x) = codes "XA END " ++ xid_text x
link_printed (requests.Prepare x) = codes "XA PREPARE " ++ xid_text x
link_printed (requests.Commit x) = codes "XA COMMIT " ++ xid_text x
link_printed (requests.Rollback x) = codes "XA ROLLBACK " ++ xid_text x
link_printed requests.Recover = codes "XA RECOVER"
link_printed (requests.Scan s) =
    codes "SELECT " ++ (scan_items_text s.items ++ (codes " FROM " ++ (name_text s.table ++ (where_text s.cond ++ (order_text s.order ++ (limit_text s.limit ++ lock_text s.lock))))))
link_printed (requests.Put t r) = codes "REPLACE INTO " ++ (name_text t ++ (codes " VALUES " ++ joined_text (codes ",") (map row_text r)))
link_printed (requests.Del t k l) = codes "DELETE FROM " ++ (name_text t ++ (codes " WHERE " ++ (name_text k ++ (codes " IN (" ++ (joined_text (codes ",") (map signed_decimal l) ++ codes ")")))))
link_printed (requests.Clear t k low high) =
    codes "DELETE FROM " ++ (name_text t ++ (codes " WHERE " ++ (name_text k ++ (codes " BETWEEN " ++ (signed_decimal low ++ (codes " AND " ++ signed_decimal high))))))
