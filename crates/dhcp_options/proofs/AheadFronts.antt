-- What is ahead in octets, by what they begin with.
use Rattle.dhcp_options.proofs.Words.{[], ◌++◌, ◌<◌, ◌∙◌, ◌∷◌, ◌≡◌, ◌≢◌, ◌≤◌, HasNoPadding, IsKind, List, None, Option}
use Rattle.dhcp_options.proofs.Words.{OptionValue, Options, Some, ℕ, ahead, ahead_of, ap, cut_of, drop, length}
use Rattle.dhcp_options.proofs.Words.{length-take-le, list_of, nil_from_length, option, refl, sym, take, take-append-drop}
use Rattle.dhcp_wire.specs.Dhcpv4Options.{ended, goes_on, lone, none, padded, torn}
use Rattle.dhcp_wire.specs.Dhcpv4Refusal.{with_bytes, with_mark, before_length, within_data, past_padding, past_option}
use Rattle.dhcp_wire.specs.Dhcpv4Refusal.{Ends}
use Rattle.dhcp_wire.proofs.Dhcpv4Lists.{list-options, options-unique}
use Rattle.dhcp_options.proofs.Cuts.{cut-is, ends-cut}

list-is : (bytes : List ℕ) (options : List OptionValue) → Options bytes options → list_of bytes ≡ options
list-is bytes options are = options-unique bytes options (list_of bytes) are (list-options bytes)

ahead-is : (bytes : List ℕ) (options : List OptionValue) (cut : Option ℕ) → Options bytes options → Ends bytes cut
    → ahead_of bytes ≡ ahead options cut
ahead-is bytes options cut are ends =
    ap (λ (os : List OptionValue). ahead os (cut_of bytes)) (list-is bytes options are)
    ∙ ap (λ (c : Option ℕ). ahead options c) (cut-is bytes cut ends)

pub ahead-nothing : ahead_of [] ≡ ahead [] None
ahead-nothing = ahead-is [] [] None none with_bytes

pub ahead-nothing-left : (bytes : List ℕ) → length bytes ≡ 0 → ahead_of bytes ≡ ahead [] None
ahead-nothing-left bytes e = ap ahead_of (nil_from_length bytes e) ∙ ahead-nothing

pub ahead-padding : (rest : List ℕ) → ahead_of (0 ∷ rest) ≡ ahead_of rest
ahead-padding rest =
    ahead-is (0 ∷ rest) (list_of rest) (cut_of rest) (padded rest (list-options rest) refl)
    (past_padding rest (ends-cut rest) refl)

pub ahead-end : (bytes rest : List ℕ) (kind : ℕ) → bytes ≡ kind ∷ rest → kind ≡ 255 → ahead_of bytes ≡ ahead [] None
ahead-end bytes rest kind e k =
    let f : bytes ≡ 255 ∷ rest = e ∙ ap (λ (n : ℕ). n ∷ rest) k in
    ahead-is bytes [] None (ended rest f) (with_mark rest f)

kind_at : (bytes rest : List ℕ) (kind : ℕ) → bytes ≡ kind ∷ rest → HasNoPadding bytes → kind ≢ 255 → IsKind kind
kind_at bytes rest kind e h other =
    record { no_padding = λ z. h rest (e ∙ ap (λ (n : ℕ). n ∷ rest) z); no_end = other }

pub ahead-lone : (bytes rest : List ℕ) (kind : ℕ) → bytes ≡ kind ∷ rest → HasNoPadding bytes → kind ≢ 255
    → length rest ≡ 0
    → ahead_of bytes ≡ ahead [] (Some kind)
ahead-lone bytes rest kind e h other nothing =
    let k = kind_at bytes rest kind e h other in
    let f : bytes ≡ kind ∷ [] = e ∙ ap (λ (l : List ℕ). kind ∷ l) (nil_from_length rest nothing) in
    ahead-is bytes [] (Some kind) (lone kind k f) (before_length kind k f)

pub ahead-torn : (bytes rest body : List ℕ) (kind n : ℕ) → bytes ≡ kind ∷ rest → HasNoPadding bytes → kind ≢ 255
    → rest ≡ n ∷ body → length body < n → ahead_of bytes ≡ ahead [] (Some kind)
ahead-torn bytes rest body kind n e h other f short =
    let k = kind_at bytes rest kind e h other in
    let g : bytes ≡ kind ∷ n ∷ body = e ∙ ap (λ (l : List ℕ). kind ∷ l) f in
    ahead-is bytes [] (Some kind) (torn kind n body k short g) (within_data kind n body k short g)

pub ahead-option : (bytes rest body front back : List ℕ) (kind n : ℕ) → bytes ≡ kind ∷ rest → HasNoPadding bytes
    → kind ≢ 255 → rest ≡ n ∷ body → n ≤ length body → front ≡ take n body → back ≡ drop n body
    → ahead_of bytes ≡ ahead (option kind front ∷ list_of back) (cut_of back)
ahead-option bytes rest body front back kind n e h other f room s t =
    let k = kind_at bytes rest kind e h other in
    let count : length front ≡ n = ap length s ∙ length-take-le n body room in
    let split : front ++ back ≡ body =
    ap (λ (l : List ℕ). l ++ back) s ∙ ap (λ (l : List ℕ). take n body ++ l) t ∙ take-append-drop n body in
    let whole : bytes ≡ kind ∷ length front ∷ (front ++ back) =
    e ∙ ap (λ (l : List ℕ). kind ∷ l) f ∙ ap (λ (m : ℕ). kind ∷ m ∷ body) (sym count)
    ∙ ap (λ (l : List ℕ). kind ∷ length front ∷ l) (sym split) in
    ahead-is bytes (option kind front ∷ list_of back) (cut_of back)
    (goes_on (option kind front) back k (list-options back) whole)
    (past_option (option kind front) back k (ends-cut back) whole)
