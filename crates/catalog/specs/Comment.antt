-- What a comment of a table or a partition says, and where one leaves the form
--   comment = [pair {"," pair}]      pair = key blanks "\"" text "\""
-- in which blanks may stand before and after each key, text and comma. Each key stands at most once. Places are told by how many bytes are left.
use Rattle.std.specs.Prelude.{◌≡◌, ℕ, zero, suc, ◌==◌, ◌||◌, Bool, true, false, List, [], ◌∷◌, Option, Some, None, Result, Ok, Err, option_and_then, if◌then◌else◌, length, nat_eq, codes}
use Rattle.std.specs.Option.{option_map, is_some, ok_or}
use Rattle.std.specs.Cmp.Lexicographic.{pointwise}
use Rattle.catalog.specs.declared.comment.Comment.{Comment}
use Rattle.catalog.specs.declared.comment.Key.{Key}
use Rattle.catalog.specs.declared.comment.Key.TheVariants.{Wrapper, Srv, Table, Lst, Mbk}
use Rattle.catalog.specs.declared.comment.CommentFault.{CommentFault}
use Rattle.catalog.specs.declared.comment.CommentFault.TheVariants.{NoMemory, Form}
use Rattle.catalog.specs.declared.link.Status.{Status}
use Rattle.catalog.specs.declared.link.Status.TheVariants as status
use Rattle.catalog.specs.CommentText.{skipped, word_run, opened, closed, words}
use Rattle.catalog.specs.Searches.{each, name_of}

-- nothing is said
abbrev pub nothing : Comment
nothing = record { wrapper = false; servers = None; remotes = None; statuses = None; monitored = None }

abbrev pub is_text : List ℕ → List ℕ → Bool
is_text a b = pointwise nat_eq a b

abbrev pub key_of : List ℕ → Option Key
key_of word =
    if is_text (codes "wrapper") word then Some Wrapper
    else (if is_text (codes "srv") word then Some Srv
    else (if is_text (codes "table") word then Some Table
    else (if is_text (codes "lst") word then Some Lst
    else (if is_text (codes "mbk") word then Some Mbk
    else None))))

-- the comment has this key
abbrev pub has_key : Comment → Key → Bool
has_key comment Wrapper = comment.wrapper
has_key comment Srv = is_some comment.servers
has_key comment Table = is_some comment.remotes
has_key comment Lst = is_some comment.statuses
has_key comment Mbk = is_some comment.monitored

-- the key that a word is, where the comment lacks it
abbrev pub free_key : Comment → List ℕ → Option Key
free_key comment word = option_and_then (λ key. if has_key comment key then None else Some key) (key_of word)

-- `1` and `3`
abbrev pub status_of : List ℕ → Option Status
status_of word = if is_text (codes "1") word then Some status.Ok else (if is_text (codes "3") word then Some status.Ng else None)

-- `0`: no link is monitored; `1` and `2`: each is
abbrev pub monitored_by : List ℕ → Option Bool
monitored_by word = if is_text (codes "0") word then Some false else (if is_text (codes "1") word || is_text (codes "2") word then Some true else None)

abbrev pub monitored_of : List (List ℕ) → Option Bool
monitored_of [] = None
monitored_of (word ∷ []) = monitored_by word
monitored_of (word ∷ other ∷ words) = None

abbrev pub is_wrapper : List (List ℕ) → Bool
is_wrapper [] = false
is_wrapper (word ∷ []) = is_text (codes "mysql") word
is_wrapper (word ∷ other ∷ words) = false

-- the comment with this key, where the words are a value of it
abbrev pub with_words : Comment → Key → List (List ℕ) → Option Comment
with_words comment Wrapper words = if is_wrapper words then Some (record comment { wrapper = true }) else None
with_words comment Srv words = Some (record comment { servers = Some words })
with_words comment Table words = option_map (λ (names : List (List ℕ)). record comment { remotes = Some names }) (each name_of words)
with_words comment Lst words = option_map (λ (statuses : List Status). record comment { statuses = Some statuses }) (each status_of words)
with_words comment Mbk words = option_map (λ (monitored : Bool). record comment { monitored = Some monitored }) (monitored_of words)

abbrev pub with_text : Comment → Key → List ℕ → Option Comment
with_text comment key text = option_and_then (with_words comment key) (words text)

-- the value of a key, in quotes behind at least one blank: the comment with it, and the bytes behind it
abbrev pub with_value : Comment → Key → List ℕ → Option (Comment × List ℕ)
with_value comment key bytes =
    option_and_then (λ (text : List ℕ × List ℕ). option_map (λ (more : Comment). (more, text.1)) (with_text comment key text.0)) (option_and_then closed (opened bytes))

abbrev pub pair_by : Comment → Option Key → List ℕ → List ℕ → Result (Comment × List ℕ) ℕ
pair_by comment None rest bytes = Err (length bytes)
pair_by comment (Some key) rest bytes = ok_or (with_value comment key rest) (length (skipped rest))

-- a pair at the front, where no blank stands: the comment with it, and the bytes behind it; or the place of its key, or of what stands behind that
abbrev pub pair_at : Comment → List ℕ → Result (Comment × List ℕ) ℕ
pair_at comment bytes = let word = word_run bytes in pair_by comment (free_key comment word.0) word.1 bytes

-- behind a pair, where no blank stands: the end, or a comma and what follows it
abbrev pub next_at : List ℕ → Result (Option (List ℕ)) ℕ
next_at [] = Ok None
next_at (b ∷ bytes) = if b == 44 then Ok (Some (skipped bytes)) else Err (length (b ∷ bytes))

abbrev pub with_next : Comment → Result (Option (List ℕ)) ℕ → Result (Comment × Option (List ℕ)) ℕ
with_next comment (Ok next) = Ok (comment, next)
with_next comment (Err left) = Err left

-- a pair and what stands behind it: the comment with it, and the next pair's bytes, where there is one
abbrev pub step_by : Result (Comment × List ℕ) ℕ → Result (Comment × Option (List ℕ)) ℕ
step_by (Ok pair) = with_next pair.0 (next_at (skipped pair.1))
step_by (Err left) = Err left

abbrev pub step_at : Comment → List ℕ → Result (Comment × Option (List ℕ)) ℕ
step_at comment bytes = step_by (pair_at comment bytes)

abbrev pub go_on : (Comment → List ℕ → Result Comment ℕ) → Comment → Option (List ℕ) → Result Comment ℕ
go_on more comment None = Ok comment
go_on more comment (Some bytes) = more comment bytes

abbrev pub after_step : (Comment → List ℕ → Result Comment ℕ) → Result (Comment × Option (List ℕ)) ℕ → Result Comment ℕ
after_step more (Ok step) = go_on more step.0 step.1
after_step more (Err left) = Err left

-- so many pairs at most, the first at the front
abbrev pub pairs_at : ℕ → Comment → List ℕ → Result Comment ℕ
pairs_at zero comment bytes = Err (length bytes)
pairs_at (suc count) comment bytes = after_step (pairs_at count) (step_at comment bytes)

abbrev pub begun_at : List ℕ → Result Comment ℕ
begun_at [] = Ok nothing
begun_at (b ∷ bytes) = pairs_at 5 nothing (b ∷ bytes)

-- a whole comment, which has no more pairs than there are keys
unfoldable pub comment_at : List ℕ → Result Comment ℕ
comment_at text = begun_at (skipped text)

-- the answer is what was read; want of memory says nothing
abbrev pub Gives : {X Y : Type 0} → (X → Y) → Result X CommentFault → Result Y ℕ → Type 0
Gives view (Ok x) read = read ≡ Ok (view x)
Gives view (Err NoMemory) read = Unit {0}
Gives view (Err (Form left)) read = read ≡ Err left
