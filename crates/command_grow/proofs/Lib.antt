mod GrowLaws
