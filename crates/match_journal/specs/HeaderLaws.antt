-- Headers: the parts of their bytes, the version that an image tells, and that an image has one header.
use Rattle.std.proofs.Common.{◌≡◌, ℕ, ◌+◌, ◌≤◌, ◌==◌, if◌then◌else◌, List, [], ◌∷◌, ◌++◌, length, get_or, take, drop, refl, sym, ◌∙◌, ap, arith, append_assoc, length-append}
use Rattle.std.specs.Int.{w32, to_be_bytes, from_be_bytes}
use Rattle.std.specs.List.{flat_map}
use Rattle.std.proofs.lemmas.List.{take-take, get_or-take, get_or-drop}
use Rattle.std.proofs.lemmas.Nat.{from_be_bytes-to_be_bytes_4}
use Rattle.match_journal.specs.Journal.{Header, Record, IsJournal, header, magic, open_record, version_of}
use Rattle.match_journal.specs.Classes.{HasHeader}
use Rattle.match_journal.specs.declared.limits.TheConstants.{MOST_TEXT}
use Rattle.match_journal.specs.declared.version.Version.{Version}
use Rattle.match_journal.specs.declared.version.Version.TheVariants.{First, Second}

-- two headers with one version and one text
pub same_head : (a b : Header) → a.version ≡ b.version → a.text ≡ b.text → a ≡ b
same_head a b version text = λ i. record { version = version i; text = text i }

-- ---- magics

pub length-magic : (v : Version) → length (magic v) ≡ 8
length-magic First = refl
length-magic Second = refl

pub take-magic : (v : Version) (rest : List ℕ) → take 8 (magic v ++ rest) ≡ magic v
take-magic First rest = refl
take-magic Second rest = refl

pub drop-magic : (v : Version) (rest : List ℕ) → drop 8 (magic v ++ rest) ≡ rest
drop-magic First rest = refl
drop-magic Second rest = refl

magic_version : (v : Version) (rest : List ℕ) → version_of (1 ∷ (magic v ++ rest)) ≡ v
magic_version First rest = refl
magic_version Second rest = refl

last_of_magic : (v : Version) (n : ℕ) → n ≡ get_or (magic v) 7 0 → (if n == 50 then Second else First) ≡ v
last_of_magic First n is = ap (λ (n : ℕ). if n == 50 then Second else First) is
last_of_magic Second n is = ap (λ (n : ℕ). if n == 50 then Second else First) is

-- the magics of two versions differ
pub one_magic : (v w : Version) → magic v ≡ magic w → v ≡ w
one_magic v w same = sym (magic_version v []) ∙ ap (λ (l : List ℕ). version_of (1 ∷ (l ++ []))) same ∙ magic_version w []

-- ---- the parts of a header

pub length-header : (head : Header) → length (header head) ≡ 12 + length head.text
length-header head =
    omega (arith, length-append (magic head.version) (to_be_bytes w32 (length head.text) ++ head.text), length-magic head.version, length-append (to_be_bytes w32 (length head.text)) head.text, size)
  where
    size : length (to_be_bytes w32 (length head.text)) ≡ 4
    size = refl

-- a header begins with its magic, and then comes the length of its text
pub header_magic : (head : Header) (image : List ℕ) → HasHeader head image → take 8 (drop 1 image) ≡ magic head.version
header_magic head image h = sym (take-take 8 (12 + length head.text) (drop 1 image) (omega arith)) ∙ ap (take 8) h.stands ∙ take-magic head.version (to_be_bytes w32 (length head.text) ++ head.text)

pub header_front : (head : Header) (image : List ℕ) → HasHeader head image → take 12 (drop 1 image) ≡ magic head.version ++ to_be_bytes w32 (length head.text)
header_front head image h = sym (take-take 12 (12 + length head.text) (drop 1 image) (omega arith)) ∙ ap (take 12) h.stands ∙ front head.version head.text
  where
    front : (v : Version) (text : List ℕ) → take 12 (magic v ++ (to_be_bytes w32 (length text) ++ text)) ≡ magic v ++ to_be_bytes w32 (length text)
    front First text = refl
    front Second text = refl

-- ---- the version that an image tells

-- what begins with the magic of a version tells it
pub front_version : (v : Version) (image : List ℕ) → take 8 (drop 1 image) ≡ magic v → version_of image ≡ v
front_version v image stands = last_of_magic v (get_or image 8 0) (sym (get_or-drop 1 image 7 0) ∙ sym (get_or-take 8 (drop 1 image) 7 0 (omega arith)) ∙ ap (λ (l : List ℕ). get_or l 7 0) stands)

-- an image with a header tells its version
pub header_version : (head : Header) (image : List ℕ) → HasHeader head image → version_of image ≡ head.version
header_version head image h = front_version head.version image (header_magic head image h)

-- a journal tells the version of its header
pub journal_version : (head : Header) (limit : ℕ) (records : List Record) (image : List ℕ) → IsJournal head limit records image → version_of image ≡ head.version
journal_version head limit records image journal =
    let size = to_be_bytes w32 (length head.text) in
    let behind : List ℕ = journal.gate ∷ journal.behind in
    let rest : List ℕ = flat_map open_record records ++ behind in
    ap version_of
    (journal.is ∙ ap (λ (l : List ℕ). 1 ∷ l) (append_assoc (header head) (flat_map open_record records) behind ∙ append_assoc (magic head.version) (size ++ head.text) rest))
    ∙ magic_version head.version ((size ++ head.text) ++ rest)

-- ---- one header

size_below : (a b : ℕ) → a ≤ MOST_TEXT → b ≤ MOST_TEXT → to_be_bytes w32 a ≡ to_be_bytes w32 b → a ≡ b
size_below a b few few' same = sym (from_be_bytes-to_be_bytes_4 a (omega (arith, few))) ∙ ap (from_be_bytes w32) same ∙ from_be_bytes-to_be_bytes_4 b (omega (arith, few'))

pub one_header : (image : List ℕ) (a b : Header) → HasHeader a image → HasHeader b image → a ≡ b
one_header image a b x y =
    let fronts = sym (header_front a image x) ∙ header_front b image y in
    let sizes : to_be_bytes w32 (length a.text) ≡ to_be_bytes w32 (length b.text) =
    sym (drop-magic a.version (to_be_bytes w32 (length a.text))) ∙ ap (drop 8) fronts ∙ drop-magic b.version (to_be_bytes w32 (length b.text)) in
    let size : length a.text ≡ length b.text = size_below (length a.text) (length b.text) x.few y.few sizes in
    let version : a.version ≡ b.version = one_magic a.version b.version (sym (header_magic a image x) ∙ header_magic b image y) in
    let stands : header a ≡ header b = sym x.stands ∙ ap (λ n. take (12 + n) (drop 1 image)) size ∙ y.stands in
    same_head a b version
    (sym (text_behind a.version a.text) ∙ ap (drop 12) stands ∙ text_behind b.version b.text)
  where
    text_behind : (v : Version) (text : List ℕ) → drop 12 (magic v ++ (to_be_bytes w32 (length text) ++ text)) ≡ text
    text_behind First text = refl
    text_behind Second text = refl
