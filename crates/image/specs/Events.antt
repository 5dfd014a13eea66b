-- What is made of a whole image: a new one, one released, one as after a break.
use Rattle.std.specs.Prelude.{Result, Ok, Err, ℕ, not, List, [], eqb, length, replicate}
use Rattle.octets.specs.Pick.{pick}
use Rattle.label_list.specs.declared.SweepRule.TheVariants.{AfterBreak}
use Rattle.label_list.specs.Counting.{counting}
use Rattle.label_list.specs.Requests.{open_ids}
use Rattle.label_list.specs.Sweep.{swept_of}
use Rattle.label_list.specs.Word.{word_count, lists_label}
use Rattle.block0.specs.Layout.{released_header, no_labels}
use Rattle.image.specs.declared.ImageFault.{ImageFault}
use Rattle.image.specs.Sizes.{image_size, cleared, further}
use Rattle.image.specs.State.{Contents, decode, store}

-- "Released means block 0 with kept 0": nothing is held, and no label is listed
abbrev pub released_contents : Contents
released_contents = record {
  header = released_header;
  labels = no_labels;
  ids = replicate word_count 0;
  index = replicate word_count 0;
  queue = [];
}

unfoldable pub release_of : List ℕ → List ℕ
release_of image = store image released_contents

-- a new image: block 0 with kept 0, 64 slots of 512 zeros, and further blocks of zeros with their check
unfoldable pub new_image : List ℕ
new_image = store (cleared (replicate image_size 0) further) released_contents

-- "12: image not 33,280 bytes"; 02: "12 reads the new size, in both versions"
unfoldable pub size_verdict : List ℕ → Result Unit ImageFault
size_verdict image = pick (not (eqb (length image) image_size)) (Err ImageFault.WrongSize) (Ok tt)

-- an image of another size is left as it is
unfoldable pub formatted_image : List ℕ → List ℕ
formatted_image image = pick (not (eqb (length image) image_size)) image new_image

-- "Connection failed ..: code 6 words are freed"
abbrev pub broken_contents : Contents → Contents
broken_contents s = record {
  header = s.header;
  labels = swept_of s.labels AfterBreak;
  ids = open_ids (swept_of s.labels AfterBreak) s.ids;
  index = counting 0 lists_label (swept_of s.labels AfterBreak) s.index;
  queue = s.queue;
}

unfoldable pub break_of : List ℕ → List ℕ
break_of image = store image (broken_contents (decode image))
