-- The sections of a gathered text have the lines of their files.
use Rattle.std.proofs.Common.{◌≡◌, ℕ, false, List, [], ◌++◌, codes, Option, Ok, refl, ap, subst, ◌∙◌, append_assoc}
use Rattle.std.specs.List.{flat_map, filter_map}
use Rattle.std.specs.Str.{bytes_eq}
use Rattle.std.proofs.lemmas.List.{append-nil}
use Rattle.std.proofs.lemmas.List.Elements.{filter_map-append}
use Rattle.relay_job.specs.declared.job.JobInclude.{JobInclude}
use Rattle.relay_job.specs.JobText.{named, sections_of}
use Rattle.relay_gather.specs.declared.paths.Paths.{Paths}
use Rattle.relay_gather.specs.Source.{Answer}
use Rattle.relay_gather.specs.Sections.{joined}
use Rattle.relay_gather.specs.Gathering.{first_names, sections_in, IsBreadthFirst, IsWhole, HasNamed, HasJoined, HasFiles, found_include}
use Rattle.relay_gather.proofs.HeadingLines.{settings_heading, aliases_heading, mailboxes_heading, transport_heading, mx_heading, envelope_heading}
use Rattle.relay_gather.proofs.TextLines.{Piece, piece_text, AllHeadings, first_file, file_bytes, include_of, NoRepeats, text_section, text_unbroken, text_includes}
use Rattle.relay_gather.proofs.Pieces.{joined-texts, Writes, Writes-append, AllHeadings-append, skipped, taken, Lacks-append, rank, IsFree-none, named_pieces, include_pieces, writes_in, writes_includes, headings_in, headings_includes, lacks_named, lacks_includes, new_named, new_includes, includes_named, includes_found, has_named, joined_pieces, writes_joined, headings_joined, lacks_joined, new_joined, includes_joined, has_joined, order_pass, order_distinct}

module _ (answer : List ℕ → Answer) (files : Paths) (includes : List (List ℕ)) (order : IsBreadthFirst answer (first_names answer files.aliases) includes) where
  abbrev Ss : List Piece
  Ss = named_pieces answer (codes "%settings") files.settings

  abbrev As : List Piece
  As = joined_pieces answer (codes "%aliases") files.aliases

  abbrev Is : List Piece
  Is = include_pieces answer includes

  abbrev Ms : List Piece
  Ms = named_pieces answer (codes "%mailboxes") files.mailboxes

  abbrev Ts : List Piece
  Ts = joined_pieces answer (codes "%transport") files.transport

  abbrev Xs : List Piece
  Xs = named_pieces answer (codes "%mx") files.mx

  abbrev Es : List Piece
  Es = named_pieces answer (codes "%envelope") files.envelope

  abbrev all : List Piece
  all = Ss ++ (As ++ (Is ++ (Ms ++ (Ts ++ (Xs ++ Es)))))

  -- the text
  all_write : Writes (sections_in answer files includes) ((Ss ++ As ++ Is) ++ (Ms ++ Ts ++ Xs ++ Es))
  all_write = Writes-append _ _ (Ss ++ As ++ Is) (Ms ++ Ts ++ Xs ++ Es)
      (Writes-append _ _ (Ss ++ As) Is (Writes-append _ _ Ss As (writes_in answer (codes "%settings") files.settings) (writes_joined answer (codes "%aliases") files.aliases)) (writes_includes answer includes))
      (Writes-append _ _ (Ms ++ Ts ++ Xs) Es
      (Writes-append _ _ (Ms ++ Ts) Xs (Writes-append _ _ Ms Ts (writes_in answer (codes "%mailboxes") files.mailboxes) (writes_joined answer (codes "%transport") files.transport)) (writes_in answer (codes "%mx") files.mx))
      (writes_in answer (codes "%envelope") files.envelope))

  in_a_row : (a b c d e f g : List Piece) → (a ++ b ++ c) ++ (d ++ e ++ f ++ g) ≡ a ++ (b ++ (c ++ (d ++ (e ++ (f ++ g)))))
  in_a_row a b c d e f g = simp append_assoc

  module _ (max : ℕ) (text : List ℕ) (joins : joined (sections_in answer files includes) max ≡ Ok text) where
    text_is : text ≡ flat_map piece_text all
    text_is = joined-texts (sections_in answer files includes) max text joins ∙ all_write ∙ ap (flat_map piece_text) (in_a_row Ss As Is Ms Ts Xs Es)

    headings : AllHeadings all
    headings =
        AllHeadings-append Ss _ (headings_in answer (codes "%settings") files.settings settings_heading)
        (AllHeadings-append As _ (headings_joined answer (codes "%aliases") files.aliases aliases_heading)
        (AllHeadings-append Is _ (headings_includes answer includes (order_pass answer files.aliases includes order))
        (AllHeadings-append Ms _ (headings_in answer (codes "%mailboxes") files.mailboxes mailboxes_heading)
        (AllHeadings-append Ts _ (headings_joined answer (codes "%transport") files.transport transport_heading)
        (AllHeadings-append Xs Es (headings_in answer (codes "%mx") files.mx mx_heading) (headings_in answer (codes "%envelope") files.envelope envelope_heading))))))

    -- ---- the include files
    unnamed : (word : List ℕ) (path : Option (List ℕ)) (ps : List Piece) → filter_map include_of (named_pieces answer word path ++ ps) ≡ filter_map include_of ps
    unnamed word path ps =
        filter_map-append include_of (named_pieces answer word path) ps
        ∙ ap (λ (is : List JobInclude). is ++ filter_map include_of ps) (includes_named answer word path)

    unjoined : (word : List ℕ) (paths : List (List ℕ)) (ps : List Piece) → filter_map include_of (joined_pieces answer word paths ++ ps) ≡ filter_map include_of ps
    unjoined word paths ps =
        filter_map-append include_of (joined_pieces answer word paths) ps
        ∙ ap (λ (is : List JobInclude). is ++ filter_map include_of ps) (includes_joined answer word paths)

    no_later : filter_map include_of (Ms ++ (Ts ++ (Xs ++ Es))) ≡ []
    no_later =
        unnamed (codes "%mailboxes") files.mailboxes (Ts ++ (Xs ++ Es)) ∙ unjoined (codes "%transport") files.transport (Xs ++ Es)
        ∙ unnamed (codes "%mx") files.mx Es ∙ includes_named answer (codes "%envelope") files.envelope

    has_includes : (sections_of text).includes ≡ filter_map (found_include answer) includes
    has_includes =
        text_includes all text text_is headings
        ∙ unnamed (codes "%settings") files.settings (As ++ (Is ++ (Ms ++ (Ts ++ (Xs ++ Es))))) ∙ unjoined (codes "%aliases") files.aliases (Is ++ (Ms ++ (Ts ++ (Xs ++ Es))))
        ∙ filter_map-append include_of Is (Ms ++ (Ts ++ (Xs ++ Es))) ∙ ap (λ (is : List JobInclude). filter_map include_of Is ++ is) no_later
        ∙ append-nil (filter_map include_of Is) ∙ includes_found answer includes

    once : NoRepeats [] all
    unfolding rank
    once =
        new_named answer [] (codes "%settings") files.settings 0 _ refl IsFree-none (λ k h.
        new_joined answer k (codes "%aliases") files.aliases 1 _ refl h (λ k h.
        new_includes answer k includes _ (order_distinct answer files.aliases includes order) h (λ k h.
        new_named answer k (codes "%mailboxes") files.mailboxes 3 _ refl h (λ k h.
        new_joined answer k (codes "%transport") files.transport 4 _ refl h (λ k h.
        new_named answer k (codes "%mx") files.mx 5 Es refl h (λ k h.
        subst (NoRepeats k) (append-nil Es) (new_named answer k (codes "%envelope") files.envelope 6 [] refl h (λ k h. tt))))))))

    -- ---- one section
    section : (word : List ℕ) (path : Option (List ℕ)) → first_file (named word) all ≡ first_file (named word) (named_pieces answer word path) → HasNamed answer text word path
    section word path h = has_named answer text word path (text_section all text text_is headings word ∙ ap file_bytes h)

    section_joined : (word : List ℕ) (paths : List (List ℕ)) → first_file (named word) all ≡ first_file (named word) (joined_pieces answer word paths) → HasJoined answer text word paths
    section_joined word paths h = has_joined answer text word paths (text_section all text text_is headings word ∙ ap file_bytes h)

    has_settings : first_file (named (codes "%settings")) all ≡ first_file (named (codes "%settings")) Ss
    has_settings =
        taken (codes "%settings") Ss (As ++ (Is ++ (Ms ++ (Ts ++ (Xs ++ Es)))))
        (Lacks-append (codes "%settings") As (Is ++ (Ms ++ (Ts ++ (Xs ++ Es)))) (lacks_joined answer (codes "%settings") (codes "%aliases") files.aliases refl)
        (Lacks-append (codes "%settings") Is (Ms ++ (Ts ++ (Xs ++ Es))) (lacks_includes answer (codes "%settings") includes)
        (Lacks-append (codes "%settings") Ms (Ts ++ (Xs ++ Es)) (lacks_named answer (codes "%settings") (codes "%mailboxes") files.mailboxes refl)
        (Lacks-append (codes "%settings") Ts (Xs ++ Es) (lacks_joined answer (codes "%settings") (codes "%transport") files.transport refl)
        (Lacks-append (codes "%settings") Xs Es (lacks_named answer (codes "%settings") (codes "%mx") files.mx refl) (lacks_named answer (codes "%settings") (codes "%envelope") files.envelope refl))))))

    has_aliases : first_file (named (codes "%aliases")) all ≡ first_file (named (codes "%aliases")) As
    has_aliases =
        skipped (codes "%aliases") Ss (As ++ (Is ++ (Ms ++ (Ts ++ (Xs ++ Es))))) (lacks_named answer (codes "%aliases") (codes "%settings") files.settings refl)
        ∙ taken (codes "%aliases") As (Is ++ (Ms ++ (Ts ++ (Xs ++ Es))))
        (Lacks-append (codes "%aliases") Is (Ms ++ (Ts ++ (Xs ++ Es))) (lacks_includes answer (codes "%aliases") includes)
        (Lacks-append (codes "%aliases") Ms (Ts ++ (Xs ++ Es)) (lacks_named answer (codes "%aliases") (codes "%mailboxes") files.mailboxes refl)
        (Lacks-append (codes "%aliases") Ts (Xs ++ Es) (lacks_joined answer (codes "%aliases") (codes "%transport") files.transport refl)
        (Lacks-append (codes "%aliases") Xs Es (lacks_named answer (codes "%aliases") (codes "%mx") files.mx refl) (lacks_named answer (codes "%aliases") (codes "%envelope") files.envelope refl)))))

    -- behind the include files
    behind : (w : List ℕ) → bytes_eq w (codes "%settings") ≡ false → bytes_eq w (codes "%aliases") ≡ false → first_file (named w) all ≡ first_file (named w) (Ms ++ (Ts ++ (Xs ++ Es)))
    behind w h g =
        skipped w Ss (As ++ (Is ++ (Ms ++ (Ts ++ (Xs ++ Es))))) (lacks_named answer w (codes "%settings") files.settings h)
        ∙ skipped w As (Is ++ (Ms ++ (Ts ++ (Xs ++ Es)))) (lacks_joined answer w (codes "%aliases") files.aliases g)
        ∙ skipped w Is (Ms ++ (Ts ++ (Xs ++ Es))) (lacks_includes answer w includes)

    has_mailboxes : first_file (named (codes "%mailboxes")) all ≡ first_file (named (codes "%mailboxes")) Ms
    has_mailboxes =
        behind (codes "%mailboxes") refl refl
        ∙ taken (codes "%mailboxes") Ms (Ts ++ (Xs ++ Es))
        (Lacks-append (codes "%mailboxes") Ts (Xs ++ Es) (lacks_joined answer (codes "%mailboxes") (codes "%transport") files.transport refl)
        (Lacks-append (codes "%mailboxes") Xs Es (lacks_named answer (codes "%mailboxes") (codes "%mx") files.mx refl) (lacks_named answer (codes "%mailboxes") (codes "%envelope") files.envelope refl)))

    has_transport : first_file (named (codes "%transport")) all ≡ first_file (named (codes "%transport")) Ts
    has_transport =
        behind (codes "%transport") refl refl
        ∙ skipped (codes "%transport") Ms (Ts ++ (Xs ++ Es)) (lacks_named answer (codes "%transport") (codes "%mailboxes") files.mailboxes refl)
        ∙ taken (codes "%transport") Ts (Xs ++ Es) (Lacks-append (codes "%transport") Xs Es (lacks_named answer (codes "%transport") (codes "%mx") files.mx refl) (lacks_named answer (codes "%transport") (codes "%envelope") files.envelope refl))

    has_mx : first_file (named (codes "%mx")) all ≡ first_file (named (codes "%mx")) Xs
    has_mx =
        behind (codes "%mx") refl refl
        ∙ skipped (codes "%mx") Ms (Ts ++ (Xs ++ Es)) (lacks_named answer (codes "%mx") (codes "%mailboxes") files.mailboxes refl)
        ∙ skipped (codes "%mx") Ts (Xs ++ Es) (lacks_joined answer (codes "%mx") (codes "%transport") files.transport refl)
        ∙ taken (codes "%mx") Xs Es (lacks_named answer (codes "%mx") (codes "%envelope") files.envelope refl)

    has_envelope : first_file (named (codes "%envelope")) all ≡ first_file (named (codes "%envelope")) Es
    has_envelope =
        behind (codes "%envelope") refl refl
        ∙ skipped (codes "%envelope") Ms (Ts ++ (Xs ++ Es)) (lacks_named answer (codes "%envelope") (codes "%mailboxes") files.mailboxes refl)
        ∙ skipped (codes "%envelope") Ts (Xs ++ Es) (lacks_joined answer (codes "%envelope") (codes "%transport") files.transport refl)
        ∙ skipped (codes "%envelope") Xs Es (lacks_named answer (codes "%envelope") (codes "%mx") files.mx refl)

    has_all : HasFiles answer files text
    has_all = record {
      no_bad_line = text_unbroken all text text_is headings once;
      settings = section (codes "%settings") files.settings has_settings;
      aliases = section_joined (codes "%aliases") files.aliases has_aliases;
      mailboxes = section (codes "%mailboxes") files.mailboxes has_mailboxes;
      transport = section_joined (codes "%transport") files.transport has_transport;
      mx = section (codes "%mx") files.mx has_mx;
      envelope = section (codes "%envelope") files.envelope has_envelope;
      paths = includes;
      order = order;
      includes = has_includes;
    }

pub whole_has_files : (answer : List ℕ → Answer) (files : Paths) (max : ℕ) (text : List ℕ) → IsWhole answer files max (Ok text) → HasFiles answer files text
whole_has_files answer files max text h = has_all answer files h.includes h.order max text h.joins
