-- Why data is refused: the check that fails first.
use Rattle.std.specs.Prelude.{◌≡◌, ◌≢◌, ◌<◌, ◌≤◌, [], ◌∷◌, ◌++◌, List, Option, ℕ, codes, decimal, drop, flat_map}
use Rattle.std.specs.Prelude.{length, true}
use Rattle.record_wire.specs.Words.{Form, FrontForm, IsSplit, Layout, PartRefusal, RestForm, pieces, written}
use Rattle.dns_wire.specs.declared.dns.tables.Type.{«Type» as RecordType}
use Rattle.record_wire.specs.Fields.{FrontValue, IsFront, AreThree, IsSecond, IsMap, AreMaps}
use Rattle.record_wire.specs.RData.{RDataValue, layout_of, IsRData}
use Rattle.record_wire.specs.RecordRefusal.{IsNoPart, part_display}
use Rattle.record_wire.specs.declared.rdata.refusal.DataRefusal.{DataRefusal}

-- no name of one part begins in the bytes, or bytes follow it
abbrev pub RefusesName : List ℕ → DataRefusal → Type 0
RefusesName bytes (DataRefusal.Name why) = IsNoPart bytes why
RefusesName bytes DataRefusal.BehindName =
    (name : List ℕ) × (after : List ℕ) × IsSplit bytes name after × (1 ≤ length after)
RefusesName bytes _ = ⊥

-- the bytes are fewer than these numbers have, or those after the numbers are refused as a name
abbrev pub RefusesBehind : ℕ → List ℕ → DataRefusal → Type 0
RefusesBehind len bytes DataRefusal.Numbers = length bytes < len
RefusesBehind len bytes why = (len ≤ length bytes) × RefusesName (drop len bytes) why

-- the first name is malformed; the second is; after both are not just 20 bytes
abbrev pub RefusesAuthority : List ℕ → DataRefusal → Type 0
RefusesAuthority bytes (DataRefusal.Name why) = IsNoPart bytes why
RefusesAuthority bytes (DataRefusal.SecondName why) =
    (primary : List ℕ) × (behind : List ℕ) × IsSplit bytes primary behind × IsNoPart behind why
RefusesAuthority bytes DataRefusal.Times =
    (primary : List ℕ) × (mailbox : List ℕ) × (behind : List ℕ) × (after : List ℕ)
    × IsSplit bytes primary behind × IsSplit behind mailbox after × (length after ≢ 20)
RefusesAuthority bytes _ = ⊥

-- there are no bytes; after whole strings one begins whose bytes are not all there
abbrev pub RefusesStrings : List ℕ → DataRefusal → Type 0
RefusesStrings bytes DataRefusal.NoString = bytes ≡ []
RefusesStrings bytes DataRefusal.String =
    (strings : List (List ℕ)) × (len : ℕ) × (rest : List ℕ)
    × (bytes ≡ flat_map written strings ++ len ∷ rest) × (length rest < len)
RefusesStrings bytes _ = ⊥

-- the numbers before a name are cut; those of a rule are not followed by three strings
abbrev pub RefusesFront : FrontForm → List ℕ → DataRefusal → Type 0
RefusesFront FrontForm.Number bytes DataRefusal.Numbers = length bytes < 2
RefusesFront FrontForm.Rule bytes DataRefusal.Numbers = length bytes < 4
RefusesFront FrontForm.Rule bytes DataRefusal.String =
    (4 ≤ length bytes) × ((strings rest : List ℕ) → AreThree (drop 4 bytes) strings rest → ⊥)
RefusesFront FrontForm.Signed bytes DataRefusal.Numbers = length bytes < 18
RefusesFront _ bytes _ = ⊥

-- what follows the names is not the rest of the data
abbrev pub RefusesRest : RestForm → List ℕ → DataRefusal → Type 0
RefusesRest RestForm.Nothing bytes DataRefusal.BehindName = 1 ≤ length bytes
RefusesRest RestForm.Bits bytes DataRefusal.Types = IsMap bytes → ⊥
RefusesRest RestForm.Types bytes DataRefusal.Types = AreMaps bytes → ⊥
RefusesRest _ bytes _ = ⊥

-- the fields before the name are not followed by a name
pub record RefusesFirst (form : Form) (bytes : List ℕ) (why : PartRefusal) : Type 0 where
  pub value : FrontValue
  pub behind : List ℕ
  pub front_is : IsFront form.front bytes value behind
  pub none : IsNoPart behind why

-- the first of two names is not followed by another
pub record RefusesSecond (form : Form) (bytes : List ℕ) (why : PartRefusal) : Type 0 where
  pub two : form.has_two ≡ true
  pub value : FrontValue
  pub behind : List ℕ
  pub name : List ℕ
  pub after : List ℕ
  pub front_is : IsFront form.front bytes value behind
  pub name_is : IsSplit behind name after
  pub none : IsNoPart after why

-- the names are there, and what follows them is not the rest
pub record RefusesBehindNames (form : Form) (bytes : List ℕ) (why : DataRefusal) : Type 0 where
  pub value : FrontValue
  pub behind : List ℕ
  pub name : List ℕ
  pub after : List ℕ
  pub second : Option (List ℕ)
  pub last : List ℕ
  pub front_is : IsFront form.front bytes value behind
  pub name_is : IsSplit behind name after
  pub second_is : IsSecond form.has_two after second last
  pub refused : RefusesRest form.«rest» last why

abbrev pub RefusesFields : Form → List ℕ → DataRefusal → Type 0
RefusesFields form bytes (DataRefusal.Name why) = RefusesFirst form bytes why
RefusesFields form bytes (DataRefusal.SecondName why) = RefusesSecond form bytes why
RefusesFields form bytes DataRefusal.BehindName = RefusesBehindNames form bytes DataRefusal.BehindName
RefusesFields form bytes DataRefusal.Types = RefusesBehindNames form bytes DataRefusal.Types
RefusesFields form bytes DataRefusal.Numbers = RefusesFront form.front bytes DataRefusal.Numbers
RefusesFields form bytes DataRefusal.String = RefusesFront form.front bytes DataRefusal.String
RefusesFields form bytes _ = ⊥

abbrev pub RefusesAddress : ℕ → List ℕ → DataRefusal → Type 0
RefusesAddress len bytes (DataRefusal.Address n) = (n ≡ len) × (length bytes ≢ len)
RefusesAddress len bytes _ = ⊥

abbrev pub RefusesLayout : Layout → List ℕ → DataRefusal → Type 0
RefusesLayout Layout.Ipv4 bytes why = RefusesAddress 4 bytes why
RefusesLayout Layout.Ipv6 bytes why = RefusesAddress 16 bytes why
RefusesLayout Layout.Name bytes why = RefusesName bytes why
RefusesLayout Layout.Mail bytes why = RefusesBehind 2 bytes why
RefusesLayout Layout.Service bytes why = RefusesBehind 6 bytes why
RefusesLayout Layout.Authority bytes why = RefusesAuthority bytes why
RefusesLayout Layout.Strings bytes why = RefusesStrings bytes why
RefusesLayout (Layout.Fields form) bytes why = RefusesFields form bytes why
RefusesLayout Layout.Opaque bytes why = ⊥

abbrev pub RefusesRData : RecordType → ℕ → List ℕ → DataRefusal → Type 0
RefusesRData t class bytes why = RefusesLayout (layout_of t class) bytes why

-- the bytes are data of a type and a class
abbrev pub HasRData : RecordType → ℕ → List ℕ → Type 0
HasRData t class bytes = (value : RDataValue) × IsRData t class bytes value

abbrev pub data_refusal_display : DataRefusal → List ℕ
data_refusal_display (DataRefusal.Address len) =
    pieces (codes "the address has other than " ∷ decimal len ∷ codes " bytes" ∷ [])
data_refusal_display DataRefusal.Numbers = codes "the numbers in front of the name are cut"
data_refusal_display (DataRefusal.Name why) = part_display why
data_refusal_display DataRefusal.BehindName = codes "bytes stand behind the name"
data_refusal_display (DataRefusal.SecondName why) = pieces (codes "behind the first name: " ∷ part_display why ∷ [])
data_refusal_display DataRefusal.Times = codes "the numbers behind the names have other than 20 bytes"
data_refusal_display DataRefusal.NoString = codes "there is no string"
data_refusal_display DataRefusal.String = codes "a string is cut"
data_refusal_display DataRefusal.Types = codes "the type bit maps are malformed"
